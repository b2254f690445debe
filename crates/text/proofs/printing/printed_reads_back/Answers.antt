use Rattle.text.proofs.ReadingBack.{decimal_back, hexadecimal_back, bytes_back}
use Rattle.text.proofs.printing.printed_reads_back.Goals as goal

pub returns : goal.returns
returns c = record { decimals = decimal_back; hexadecimals = hexadecimal_back; bytes = bytes_back }

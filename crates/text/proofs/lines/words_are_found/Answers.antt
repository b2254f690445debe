use Rattle.text.proofs.Finding.{lay, find}
use Rattle.text.proofs.lines.words_are_found.Goals as goal

pub returns : goal.returns
returns c = record { laid = lay; found = find }

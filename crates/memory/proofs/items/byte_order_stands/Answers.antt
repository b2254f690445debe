-- Byte order, as Bytewise proves it.
use Rattle.memory.proofs.Bytewise.{byte_order}
use Rattle.memory.proofs.items.byte_order_stands.Goals as goal

pub returns : goal.returns
returns c = byte_order

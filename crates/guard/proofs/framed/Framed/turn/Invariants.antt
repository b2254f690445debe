-- So many frames have the kind.
use Rattle.std.proofs.Common.{◌≡◌}
use Rattle.journal.specs.Pictures.{filled}
use Rattle.guard.specs.Tables.{over_kinds}
use Rattle.guard.proofs.framed.Framed.turn.Given as goal

abbrev pub invariant-loop-k : goal.invariant-loop-k
invariant-loop-k g l = l.self ≡ over_kinds l.initial.self (filled l.initial.self.kinds l.first l.k l.kind)

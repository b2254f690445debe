-- What is left to scan says of the frame what all of it does.
use Rattle.std.proofs.Common.{◌≡◌}
use Rattle.guard.specs.Scans.{left_to_scan, scanned}
use Rattle.guard.proofs.scans.passes.Given as goal

abbrev pub invariant-loop-index : goal.invariant-loop-index
invariant-loop-index g l = left_to_scan (g.M.Memory.means.words l.memory) l.frame l.index l.scanner ≡ scanned (g.M.Memory.means.words l.memory) l.frame

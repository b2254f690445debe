-- No entry so far is looked for.
use Rattle.std.proofs.Common.{◌≡◌, true}
use Rattle.guard.specs.Scans.{clear_table}
use Rattle.guard.proofs.scans.is_clear.Given as goal

abbrev pub invariant-loop-index : goal.invariant-loop-index
invariant-loop-index g l = clear_table (g.M.Memory.means.words l.memory) l.sought l.table l.index ≡ true

-- No entry of the tables so far is looked for.
use Rattle.std.proofs.Common.{◌≡◌, true}
use Rattle.guard.specs.Scans.{clear_frames}
use Rattle.guard.proofs.guarded.GuardedMemory.has_no_entry.Given as goal

abbrev pub invariant-loop-table : goal.invariant-loop-table
invariant-loop-table g l = clear_frames l.self.picture.words l.self.picture.kinds l.level l.sought l.table ≡ true

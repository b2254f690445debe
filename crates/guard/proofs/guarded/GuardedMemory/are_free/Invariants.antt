-- So many frames are free.
use Rattle.std.proofs.Common.{◌≡◌, true}
use Rattle.journal.specs.Pictures.{free_frames}
use Rattle.guard.proofs.guarded.GuardedMemory.are_free.Given as goal

abbrev pub invariant-loop-k : goal.invariant-loop-k
invariant-loop-k g l = free_frames l.self.picture.kinds l.first l.k ≡ true

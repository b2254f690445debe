-- The policy has the history of the writes so far.
use Rattle.std.proofs.Common.{take}
use Rattle.policy.proofs.history.tell_all.Given as goal
use Rattle.policy.specs.Histories.{History}

abbrev pub invariant-loop-write : goal.invariant-loop-write
invariant-loop-write g l = History g.P.Policy.means l.initial.policy (take l.write-index l.writes) l.policy

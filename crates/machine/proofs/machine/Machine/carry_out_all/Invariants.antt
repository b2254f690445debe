-- What came of the tasks so far.
use Rattle.std.proofs.Common.{◌≡◌, length, take}
use Rattle.machine.specs.Runs.{RunOf}
use Rattle.machine.proofs.machine.Machine.carry_out_all.Given as goal

abbrev pub invariant-loop-index : goal.invariant-loop-index
invariant-loop-index g l = RunOf g.P.Policy.means (take l.index l.tasks) l.initial.self l.self l.initial.answers l.answers l.initial.archive l.archive l.drained × (length l.archive ≡ length l.initial.archive)

-- A drain says how many words it copied out.
use Rattle.std.proofs.Common.{rules}
use Rattle.machine.proofs.Running.{drained_counts}
use Rattle.machine.proofs.machine.Machine.carry_out.Goals as goal

pub returns-in-Drain-clause-count : goal.returns-in-Drain-clause-count
returns-in-Drain-clause-count g c = let said = drained_counts _ _ _ _ _ c.drain.ensures.step in search rules

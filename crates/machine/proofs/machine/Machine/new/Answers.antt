-- What follows of a new machine.
use Rattle.std.proofs.Common.{rules}
use Rattle.guarantee.proofs.Holding.{guaranteed}
use Rattle.machine.proofs.machine.Machine.new.Goals as goal

pub returns-clause-guarantee : goal.returns-clause-guarantee
returns-clause-guarantee g c = let l = g.met.P.Policy.laws in search (rules, guaranteed)

use Rattle.conformance.proofs.Comparings.{agrees_means}
use Rattle.conformance.proofs.comparing.agrees.Goals as goal

-- src/comparing.rt:41:1
pub returns-clause-means : goal.returns-clause-means
returns-clause-means c = agrees_means _ _ _ c.continues.ensures

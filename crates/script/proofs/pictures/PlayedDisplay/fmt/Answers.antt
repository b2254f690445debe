-- The slices are those of the lists.
use Rattle.std.proofs.Common.{ap, ◌∙◌}
use Rattle.std.proofs.Output.{has_written_of_eq}
use Rattle.script.specs.Pictures.{picture_text, played_text}
use Rattle.script.proofs.pictures.PlayedDisplay.fmt.Goals as goal

pub returns-clause-writes : goal.returns-clause-writes
returns-clause-writes g c = λ plain ok.
    has_written_of_eq _ _ _ _ _
    (ap (λ l. played_text c.args.self.now.records (picture_text l c.as_slice-2.result.now)) c.as_slice.ensures.value ∙ ap (λ l. played_text c.args.self.now.records (picture_text c.args.self.now.words.items l)) c.as_slice-2.ensures.value)
    (c.write.ensures.writes plain ok)

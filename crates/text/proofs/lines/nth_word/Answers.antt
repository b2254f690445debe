use Rattle.std.proofs.Common.{ap}
use Rattle.std.proofs.lemmas.Iterator.Consumers.{nth_from_yields_List, YieldsList-from_first}
use Rattle.text.specs.Lines.{words_of}
use Rattle.text.proofs.lines.nth_word.Goals as goal

pub returns : goal.returns
returns c = nth_from_yields_List _ _ _ c.nth.ensures.ran (YieldsList-from_first (λ w. w.now) words_of (words_of c.args.text.now) (ap words_of c.new.ensures))

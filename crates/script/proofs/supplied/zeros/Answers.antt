-- A list of noughts is what was asked for, and shows frames of zeros.
use Rattle.std.proofs.Common.{ap, ◌∙◌, replicate}
use Rattle.memory.proofs.Zeros.{zeros_shown}
use Rattle.script.proofs.supplied.zeros.Goals as goal
use Rattle.std.proofs.lemmas.Result.{IfOk-weaker}

pub returns-clause-list : goal.returns-clause-list
returns-clause-list g c = IfOk-weaker c.vec.result _ _
    (λ v same. same (λ y clone. g.met.T.Item.clones _ y clone) ∙ ap (replicate c.args.size) c.zero.ensures)
    c.vec.ensures.items_if_clones_equal

pub returns-clause-words : goal.returns-clause-words
returns-clause-words g c = IfOk-weaker c.vec.result _ _
    (λ v same. zeros_shown g.met.T.Item.laws c.args.size v.items (same (λ y clone. g.met.T.Item.clones _ y clone) ∙ ap (replicate c.args.size) c.zero.ensures))
    c.vec.ensures.items_if_clones_equal

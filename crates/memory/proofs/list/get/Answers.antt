-- The items at the place of a word are one of the chunks that a list is cut into.
use Rattle.std.proofs.Common.{◌≡◌, ◌<◌, ◌/◌, length, get_or, sym, ap, ◌∙◌, rules}
use Rattle.memory.proofs.Chunks.{chunk_at}
use Rattle.memory.proofs.list.get.Goals as goal
use Rattle.memory.specs.Items.{part}

pub returns : goal.returns
returns g c =
    let within : c.args.index < length c.args.list.now / g.row.N = search rules in
    let cut : c.index-words-index.result ≡ part g.row.N c.args.list.now c.args.index =
    c.index-words-index.is
    ∙ ap (λ l. get_or l c.args.index c.index-words-index.result) c.as_chunks.ensures.front
    ∙ chunk_at g.row.N (length c.args.list.now / g.row.N) c.args.index c.args.list.now c.index-words-index.result within in
    c.word.ensures ∙ ap g.T.Item.word_in cut ∙ sym (g.met.T.Item.laws.item.made c.args.list.now c.args.index c.requires)

-- One item is put as what the word is made of.
use Rattle.std.proofs.Common.{ap, ◌∙◌}
use Rattle.memory.proofs.Puts.{one_put}
use Rattle.memory.proofs.list.put.Goals as goal

pub returns-in-len1-clause-list : goal.returns-in-len1-clause-list
returns-in-len1-clause-list g c = one_put g.met.T.Item.laws c.args.list.now c.args.index c.args.value c.as_slice.result.now c.item-item.result c.requires (c.as_slice.ensures ∙ c.items.ensures) c.in-len1.len_at_least c.in-len1.len_below c.item-item.is

pub returns-in-len1-clause-after : goal.returns-in-len1-clause-after
returns-in-len1-clause-after g c = ap g.T.Item.words (returns-in-len1-clause-list g c) ∙ g.met.T.Item.laws.after c.args.list.now c.args.index c.args.value c.requires c.ranges.value.fits

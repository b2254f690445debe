use Rattle.std.proofs.Common.{◌≡◌, drop, vec_items}
use Rattle.text.specs.Numbers.{pairs_of}
use Rattle.text.proofs.Pairing.{read_on_pairs}
use Rattle.text.proofs.numbers.pairs.Given as goal

-- the pairs left, read behind the bytes so far, give the bytes of all digits
abbrev pub invariant-loop-high : goal.invariant-loop-high
invariant-loop-high l = read_on_pairs (vec_items l.out) (drop l.high-index l.pairs) ≡ pairs_of l.digits

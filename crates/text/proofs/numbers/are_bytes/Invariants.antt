use Rattle.std.proofs.Common.{◌≡◌, drop}
use Rattle.std.specs.List.{list_all}
use Rattle.text.specs.Numbers.{writes_byte}
use Rattle.text.proofs.numbers.are_bytes.Given as goal

-- the pairs left all write bytes exactly where all pairs do
abbrev pub invariant-loop-high : goal.invariant-loop-high
invariant-loop-high l = list_all writes_byte (drop l.high-index l.pairs) ≡ list_all writes_byte l.pairs

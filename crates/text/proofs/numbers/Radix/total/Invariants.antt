use Rattle.std.proofs.Common.{◌≡◌, ◌^◌, ◌<◌, drop}
use Rattle.text.specs.Numbers.{base, reads_on}
use Rattle.text.proofs.numbers.Radix.total.Given as goal

-- what is left of the digits, read behind the total, is the number of them all
abbrev pub invariant-loop-byte : goal.invariant-loop-byte
invariant-loop-byte l = (l.total < 2 ^ 64) × (reads_on (base l.self) l.total (drop l.byte-index l.digits) ≡ reads_on (base l.self) 0 l.digits)

use Rattle.std.proofs.Common.{◌≡◌, ◌*◌, take}
use Rattle.std.specs.List.{flat_map}
use Rattle.text.specs.Texts.{two_digits}
use Rattle.text.proofs.printing.put_pairs.Given as goal

-- the digits of the bytes passed stand at the front
abbrev pub invariant-loop-place : goal.invariant-loop-place
invariant-loop-place l = take (2 * l.place) l.text ≡ flat_map two_digits (take l.place l.bytes)

-- What the console prints of numbers and bytes.
--
--   hexadecimal     a number in upper-case hexadecimal digits, without leading zeros
--   hex_bytes       bytes in two digits each, or `-` for none
--   Puts            that a call put a text behind what a list held
--
-- Made of: `hex_digit`, `two_digits`.
use Rattle.std.specs.Prelude.{◌≡◌, ℕ, ◌+◌, ◌/◌, ◌%◌, cond, List, [], ◌∷◌, ◌++◌, map, length, codes, Result, OnOk, ◌==◌, nat_lt}
use Rattle.std.specs.List.{flat_map}
use Rattle.std.specs.Int.Digits.{digits_of}

-- the character of a hexadecimal digit
abbrev pub hex_digit : ℕ → ℕ
hex_digit d = cond (nat_lt d 10) (48 + d) (55 + d)

-- the digits of a number; 0 has one digit
unfoldable pub hexadecimal : ℕ → List ℕ
hexadecimal n = cond (n == 0) (codes "0") (map hex_digit (digits_of 16 n))

-- the two digits of a byte
abbrev pub two_digits : ℕ → List ℕ
two_digits b = hex_digit (b / 16) ∷ hex_digit (b % 16) ∷ []

-- the digits of all bytes, the first byte first
abbrev pub hex_bytes : List ℕ → List ℕ
hex_bytes bs = cond (length bs == 0) (codes "-") (flat_map two_digits bs)

-- where the call found memory, the list is what it was with the text behind it
abbrev pub Puts : {E : Type 0} → Result (Unit {0}) E → List ℕ → List ℕ → List ℕ → Type 0
Puts r was text is = OnOk r (is ≡ was ++ text)

-- Numbers and bytes as a script writes them.
--
--   number_of       the number that a word of digits writes, where it is below 2 ^ 64
--   Number          that a word is such a number
--   bytes_of        the bytes that a word of hexadecimal digits writes, two digits to a byte
--
-- `digit_value`, `IsNumeral` and `digits_value` are the library's: a digit in either case, one digit or more, what the digits write.
--
-- Made of: `base`, `digit_of`, `reads_on`, `pair_of`, `writes_byte`, `pairs_of`.
use Rattle.std.specs.Prelude.{ℕ, Bool, is_some, slice_index, ◌+◌, ◌*◌, ◌^◌, ◌<◌, cond, ◌&&◌, List, [], ◌∷◌, length, Some, None, codes, Option, ◌==◌, nat_lt}
use Rattle.std.specs.Option.{option_and_then, option_map}
use Rattle.std.specs.Str.Parse.{IsNumeral, digits_value}
use Rattle.std.specs.Char.{digit_value}
use Rattle.std.specs.Str.{bytes_eq}
use Rattle.text.specs.declared.numbers.Radix.{Radix}
use Rattle.text.specs.declared.numbers.Radix.TheVariants.{Decimal, Hexadecimal}

-- how many digits a radix has
abbrev pub base : Radix → ℕ
base Decimal = 10
base Hexadecimal = 16

-- the value of a byte that is a digit of the radix
abbrev pub digit_of : ℕ → ℕ → Option ℕ
digit_of radix c = cond (nat_lt (digit_value c) radix) (Some (digit_value c)) None

-- the number that digits write behind those of n, where it is below 2 ^ 64 and all of them are digits
abbrev pub reads_on : ℕ → ℕ → List ℕ → Option ℕ
reads_on radix n [] = cond (nat_lt n (2 ^ 64)) (Some n) None
reads_on radix n (c ∷ cs) = option_and_then (λ d. reads_on radix (n * radix + d) cs) (digit_of radix c)

-- the number that a word writes; nothing for an empty word, a byte that is no digit, or a number of 2 ^ 64 and more
abbrev pub number_of : ℕ → List ℕ → Option ℕ
number_of radix w = cond (length w == 0) None (reads_on radix 0 w)

-- one digit or more, nothing else, and a number below 2 ^ 64
abbrev pub Number : ℕ → List ℕ → Type 0
Number radix w = IsNumeral radix w × (digits_value radix w < 2 ^ 64)

-- the byte that two hexadecimal digits write
abbrev pub pair_of : ℕ → ℕ → Option ℕ
pair_of c d = cond (nat_lt (digit_value c) 16 && nat_lt (digit_value d) 16) (Some (digit_value c * 16 + digit_value d)) None

-- whether a pair of digits writes a byte
abbrev pub writes_byte : List ℕ → Bool
writes_byte pair = is_some (pair_of (slice_index pair 0) (slice_index pair 1))

-- the bytes that hexadecimal digits write, two digits to a byte
abbrev pub pairs_of : List ℕ → Option (List ℕ)
pairs_of [] = Some []
pairs_of (c ∷ []) = None
pairs_of (c ∷ d ∷ cs) = option_and_then (λ b. option_map (λ bs. b ∷ bs) (pairs_of cs)) (pair_of c d)

-- the bytes that a word writes, the first one first; `-` writes none, and an empty word is no bytes
abbrev pub bytes_of : List ℕ → Option (List ℕ)
bytes_of w = cond (bytes_eq w (codes "-")) (Some []) (cond (length w == 0) None (pairs_of w))

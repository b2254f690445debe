-- The words that stand behind the name of a command, and what they write. Numbers are decimal, words hexadecimal.
--
--   ends_before, only               that no word is left over, and a value where none is
--   decimal_at, hexadecimal_at      the number or the word that is written at a place
--   one_number, two_numbers, ..     the values where these are written, and nothing else
--
-- Made of: `three_numbers`, `place_and_word`, `one_word`, `two_words`.
use Rattle.std.specs.Prelude.{ℕ, Bool, cond, List, length, Some, None, Option, ◌==◌}
use Rattle.std.specs.Option.{option_and_then}
use Rattle.text.specs.Lines.{word_at}
use Rattle.text.specs.Numbers.{number_of}

-- that a text has no word at a place, and so none behind it
abbrev pub ends_before : List ℕ → ℕ → Bool
ends_before t n = length (word_at t n) == 0

-- the value, where no word of the text is left over from the place n on
abbrev pub only : {A : Type 0} → List ℕ → ℕ → A → Option A
only t n a = cond (ends_before t n) (Some a) None

-- the decimal and the hexadecimal number at a place of a text
abbrev pub decimal_at : List ℕ → ℕ → Option ℕ
decimal_at t n = number_of 10 (word_at t n)

abbrev pub hexadecimal_at : List ℕ → ℕ → Option ℕ
hexadecimal_at t n = number_of 16 (word_at t n)

-- NUMBER
unfoldable pub one_number : List ℕ → Option ℕ
one_number t = option_and_then (λ a. only t 1 a) (decimal_at t 0)

-- NUMBER NUMBER
unfoldable pub two_numbers : List ℕ → Option (ℕ × ℕ)
two_numbers t = option_and_then (λ a. option_and_then (λ b. only t 2 (a, b)) (decimal_at t 1)) (decimal_at t 0)

-- NUMBER NUMBER NUMBER
unfoldable pub three_numbers : List ℕ → Option (ℕ × ℕ × ℕ)
three_numbers t = option_and_then (λ a. option_and_then (λ b. option_and_then (λ c. only t 3 (a, b, c)) (decimal_at t 2)) (decimal_at t 1)) (decimal_at t 0)

-- NUMBER NUMBER WORD
unfoldable pub place_and_word : List ℕ → Option (ℕ × ℕ × ℕ)
place_and_word t = option_and_then (λ a. option_and_then (λ b. option_and_then (λ w. only t 3 (a, b, w)) (hexadecimal_at t 2)) (decimal_at t 1)) (decimal_at t 0)

-- WORD
unfoldable pub one_word : List ℕ → Option ℕ
one_word t = option_and_then (λ w. only t 1 w) (hexadecimal_at t 0)

-- WORD WORD
unfoldable pub two_words : List ℕ → Option (ℕ × ℕ)
two_words t = option_and_then (λ v. option_and_then (λ w. only t 2 (v, w)) (hexadecimal_at t 1)) (hexadecimal_at t 0)

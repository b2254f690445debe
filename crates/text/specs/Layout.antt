-- How words lie in a text, said without looking for them.
--
--   Blank, Word     a run of blanks; one byte or more, none of them a blank
--   Laid            that a text is these words in turn, set apart by blanks
--   WordsFound      that each text is laid out so by `words_of`, and that `word_at` finds its words
--
-- Made of: `Apart`, `Begins`.
use Rattle.std.specs.Prelude.{◌≡◌, ℕ, ◌<◌, true, false, List, [], ◌∷◌, ◌++◌, length, slice_index_or}
use Rattle.std.specs.List.{AllByRecursion}
use Rattle.text.specs.Lines.{blank, word_at, words_of}

-- spaces and tabs alone, or nothing
abbrev pub Blank : List ℕ → Type 0
Blank t = AllByRecursion (λ b. blank b ≡ true) t

-- one byte or more, and no blank among them
abbrev pub Word : List ℕ → Type 0
Word w = (0 < length w) × AllByRecursion (λ b. blank b ≡ false) w

-- nothing more, or a blank first
abbrev pub Apart : List ℕ → Type 0
Apart [] = Unit {0}
Apart (b ∷ bs) = blank b ≡ true

-- a text begins with blanks, or none, and then the word w, and the rest is set apart from it
pub record Begins (w rest t : List ℕ) : Type 0 where
  pub gap : List ℕ
  pub blanks : Blank gap
  pub letters : Word w
  pub apart : Apart rest
  pub whole : t ≡ gap ++ (w ++ rest)

-- the words of a text, with blanks between them, and before and behind them blanks or nothing
abbrev pub Laid : List (List ℕ) → List ℕ → Type 0
Laid [] t = Blank t
Laid (w ∷ ws) t = (rest : List ℕ) × (Begins w rest t × Laid ws rest)

-- every text has such words, those of `words_of`, and the word at a place is the one of them with that number
pub record WordsFound : Type 0 where
  pub laid : (t : List ℕ) → Laid (words_of t) t
  pub found : (ws : List (List ℕ)) (t : List ℕ) (n : ℕ) → Laid ws t → word_at t n ≡ slice_index_or ws n []

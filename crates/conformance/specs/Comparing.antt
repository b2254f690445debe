-- A printed line beside the one that was expected. Another emulator does not tell at which level and in which table a walk ended, so that place may be
-- left out of what is expected.
--
--   names_level   whether a number is that of a level
--   is_place      whether a text is the place of a walk's fault
--   behind      what of a line stands behind one that is expected
--   agrees      whether a printed line is the expected one, but for the place of a walk's fault
--   Expected    the same in the subject's words
use Rattle.std.specs.Prelude.{◌≡◌, ℕ, Bool, ◌&&◌, ◌||◌, ◌==◌, ◌⊎◌, IsTrue, List, [], ◌++◌, codes, drop, length, take, Option, is_some}
use Rattle.std.specs.Option.{option_and_then}
use Rattle.std.specs.Str.{bytes_eq}
use Rattle.frames.specs.Kinds.{level_of}
use Rattle.text.specs.Lines.{word_at}
use Rattle.text.specs.Numbers.{number_of}

-- A number is that of a level.
abbrev pub names_level : Option ℕ → Bool
names_level number = is_some (option_and_then level_of number)

-- The words `at level L in table T` and no other.
abbrev pub is_place : List ℕ → Bool
is_place text =
    bytes_eq (word_at text 0) (codes "at")
    && (bytes_eq (word_at text 1) (codes "level")
    && (names_level (number_of 10 (word_at text 2))
    && (bytes_eq (word_at text 3) (codes "in")
    && (bytes_eq (word_at text 4) (codes "table")
    && (is_some (number_of 10 (word_at text 5))
    && length (word_at text 6) == 0)))))

-- What of a printed line stands behind as many bytes as are expected.
abbrev pub behind : List ℕ → List ℕ → List ℕ
behind expected printed = drop (length expected) printed

-- A printed line begins with the expected one, and behind that stands nothing or the place of a walk's fault.
abbrev pub agrees : List ℕ → List ℕ → Bool
agrees expected printed = bytes_eq (take (length expected) printed) expected && (length (behind expected printed) == 0 || is_place (behind expected printed))

-- A printed line is the expected one, behind which stands nothing or the place of a walk's fault.
pub record Expected (expected printed : List ℕ) : Type 0 where
  pub rest : List ℕ
  pub whole : printed ≡ expected ++ rest
  pub place : (rest ≡ []) ⊎ IsTrue (is_place rest)

-- A memory as a list of words in frames of 512, and what a list of items shows as one.
--
--   frames_in    how many whole frames a list shows
--   shown        the words of those frames, of a list of words
--   behind       what lies behind those frames
--   word_at      a word by its index, or nothing
--   written      a list after a write
--   Beside       what stands beside the words of a memory
--   beside_list  the same of a list of items
--   Meaning      what a memory means
--   list_means   what whatever holds a list of items means
--   Lawful       what holds of every memory
use Rattle.std.specs.Prelude.{◌≡◌, ℕ, ◌*◌, ◌/◌, ◌≤◌, min, cond, List, [], ◌∷◌, length, take, drop, Some, None, Option, nat_lt, slice_index}

-- How many frames of `size` items lie whole in a list: no more than 256 are shown.
abbrev pub frames_in : {Item : Type 0} → ℕ → List Item → ℕ
frames_in size list = min (length list / size) 256

-- The words of the whole frames of a list of words.
abbrev pub shown : List ℕ → List ℕ
shown list = take (512 * frames_in 512 list) list

-- What lies behind the frames of `size` items that a list shows.
abbrev pub behind : {Item : Type 0} → ℕ → List Item → List Item
behind size list = drop (size * frames_in size list) list

-- The word at an index, or nothing where the list has none.
abbrev pub word_at : List ℕ → ℕ → Option ℕ
word_at list index = cond (nat_lt index (length list)) (Some (slice_index list index)) None

-- A list with `n` items to a word after a write of one word, which `put` puts into it: only a word that is shown is
-- replaced.
abbrev pub written : {Item : Type 0} → ℕ → (List Item → ℕ → ℕ → List Item) → List Item → ℕ → ℕ → List Item
written n put list index value = cond (nat_lt index (512 * frames_in (512 * n) list)) (put list index value) list

-- What stands beside the words of a memory, which no call changes: what lies behind the frames that it shows in each list
-- that it was lent or owns, and the names of the loans.
pub record Beside : Type 0 where
  pub rest : List (List ℕ)
  pub loans : List ℕ

-- The same of a list of items, n to a word, that was lent by such loans.
abbrev pub beside_list : {Item : Type 0} → ℕ → (List Item → List ℕ) → List Item → List ℕ → Beside
beside_list n numbers list loans = record { rest = numbers (behind (512 * n) list) ∷ []; loans = loans }

-- What a memory means: its words, in the order of their indices, its count of frames, and what stands beside its words.
pub record Meaning (Self : Type 0) : Type 0 where
  pub words : Self → List ℕ
  pub size : Self → ℕ
  pub beside : Self → Beside

-- What whatever holds a list of items means, n to a word.
abbrev pub list_means : {Item Self : Type 0} → ℕ → (List Item → List ℕ) → (List Item → List ℕ) → (Self → List Item)
    → (Self → List ℕ) → Meaning Self
list_means n words numbers list loans = record {
  words = λ m. words (list m);
  size = λ m. frames_in (512 * n) (list m);
  beside = λ m. beside_list n numbers (list m) (loans m);
}

-- Every memory has 512 words for each of its frames, and at most 256 frames.
pub record Lawful {Self : Type 0} (means : Meaning Self) : Type 0 where
  pub whole : (memory : Self) → length (means.words memory) ≡ 512 * means.size memory
  pub few : (memory : Self) → means.size memory ≤ 256

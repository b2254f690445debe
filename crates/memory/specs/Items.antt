-- The items that a list of a memory is made of: whole words, or the bytes of words.
--
--   part        the items of one word of a list
--   sole        the word that a single item makes
--   laid        a list with other items in the place of one word's
--   IsItem      what makes a kind of item
--   Shows       what follows of every kind of item
--   list_laws   that whatever holds a list of items is a memory
use Rattle.std.specs.Prelude.{◌≡◌, ℕ, ◌+◌, ◌*◌, ◌^◌, ◌<◌, ◌≤◌, List, ◌++◌, length, take, drop, replicate, slice_index, slice_set}
use Rattle.std.proofs.Common.{arith}
use Rattle.memory.specs.Memories.{behind, frames_in, list_means, Lawful}

-- The items of word i, where each word is n of them.
abbrev pub part : {Item : Type 0} → ℕ → List Item → ℕ → List Item
part n list i = take n (drop (n * i) list)

-- The word that a single item makes, a whole word.
abbrev pub sole : List ℕ → ℕ
sole items = slice_index items 0

-- A list with the given items in the place of those of word i, and all else as it was.
abbrev pub laid : {Item : Type 0} → ℕ → List Item → ℕ → List Item → List Item
laid n list i items = take (n * i) list ++ (items ++ drop (n * i + n) list)

-- What makes a kind of item, told by how many make a word (`n`), the word that so many make (`word`), the items of a word
-- (`items`), the item of which the word 0 is made (`nought`), the words of the whole frames of a list (`words`), and a list
-- with a word put into it (`put`).
pub record IsItem {Item : Type 0} (n : ℕ) (word : List Item → ℕ) (items : ℕ → List Item) (nought : Item)
    (words : List Item → List ℕ) (put : List Item → ℕ → ℕ → List Item) : Type 0 where
  -- A word is 1 to 8 items, which make it again, and the word 0 is made of one item alone.
  pub some : 1 ≤ n
  pub few : n ≤ 8
  pub long : (w : ℕ) → length (items w) ≡ n
  pub back : (w : ℕ) → w < 2 ^ 64 → word (items w) ≡ w
  pub zeros : word (replicate n nought) ≡ 0
  -- A list shows the 512 words of each of its frames, and each is the word that its items make.
  pub whole : (list : List Item) → length (words list) ≡ 512 * frames_in (512 * n) list
  pub made : (list : List Item) (i : ℕ) → i < 512 * frames_in (512 * n) list → slice_index (words list) i ≡ word (part n list i)
  -- A word that is put lies in its place, and all else is as it was.
  pub lays : (list : List Item) (i w : ℕ) → i < 512 * frames_in (512 * n) list → put list i w ≡ laid n list i (items w)

-- What follows of every kind of item, and is all that a memory needs to know of its items.
pub record Shows {Item : Type 0} (n : ℕ) (word : List Item → ℕ) (items : ℕ → List Item) (nought : Item)
    (words : List Item → List ℕ) (put : List Item → ℕ → ℕ → List Item) : Type 0 where
  pub item : IsItem n word items nought words put
  -- The items of each word that is shown lie in the list,
  pub room : (list : List Item) (i : ℕ) → i < 512 * frames_in (512 * n) list → n * i + n ≤ length list
  -- a word that is put is the one shown there, and no other is altered,
  pub after : (list : List Item) (i w : ℕ) → i < 512 * frames_in (512 * n) list → w < 2 ^ 64
      → words (put list i w) ≡ slice_set (words list) i w
  -- nor what lies behind the frames, nor how many there are.
  pub rest : (list : List Item) (i w : ℕ) → i < 512 * frames_in (512 * n) list
      → behind (512 * n) (put list i w) ≡ behind (512 * n) list
  pub same : (list : List Item) (i w : ℕ) → i < 512 * frames_in (512 * n) list
      → frames_in (512 * n) (put list i w) ≡ frames_in (512 * n) list

-- Whatever holds a list of items is a memory by the words of that list.
pub list_laws : {Item Self : Type 0} {n : ℕ} {word : List Item → ℕ} {items : ℕ → List Item} {nought : Item}
    {words : List Item → List ℕ} {put : List Item → ℕ → ℕ → List Item} → Shows n word items nought words put
    → (numbers : List Item → List ℕ) (list : Self → List Item) (loans : Self → List ℕ)
    → Lawful (list_means n words numbers list loans)
list_laws shows numbers list loans = record {
  whole = λ m. shows.item.whole (list m);
  few = λ m. omega arith;
}

-- That bytes are items of a memory.
use Rattle.std.specs.Prelude.{◌≡◌, ℕ, ◌+◌, ◌*◌, ◌^◌, ◌<◌, List, length, drop, refl}
use Rattle.std.proofs.Common.{get_or, sym, ap, ◌∙◌, arith, lit<}
use Rattle.std.proofs.lemmas.List.FromFn.{get_or-map-range_with_len, length-map-range_with_len}
use Rattle.std.proofs.lemmas.List.{get_or-drop, get_or-take}
use Rattle.memory.specs.ByteOrder.{byte_at, first, word_of, words_of, bytes_of, put_word}
use Rattle.memory.specs.Items.{IsItem, part}
use Rattle.memory.specs.Memories.{frames_in}

pub length-words_of : (list : List ℕ) → length (words_of list) ≡ 512 * frames_in 4096 list
unfolding words_of
length-words_of list = length-map-range_with_len (word_of list) 0 (512 * frames_in 4096 list)

-- A word that is shown, by its bytes.
pub word_shown : (list : List ℕ) (i d : ℕ) → i < 512 * frames_in 4096 list → get_or (words_of list) i d ≡ word_of list i
unfolding words_of
word_shown list i d inside = get_or-map-range_with_len (word_of list) 0 (512 * frames_in 4096 list) i i d inside (omega arith)

-- A byte of a first word is that of the list.
at_first : (list : List ℕ) (j : ℕ) → get_or list j 0 ≡ byte_at list 0 j
at_first list j = let here : j ≡ 8 * 0 + j = omega arith in ap (λ k. get_or list k 0) here

-- A word is the one that its eight bytes make, wherever they lie.
pub same_word : (list other : List ℕ) (i k : ℕ) → ((j : ℕ) → j < 8 → byte_at list i j ≡ byte_at other k j) → word_of list i ≡ word_of other k
unfolding word_of
same_word list other i k same =
    let b0 = same 0 (lit< tt) in
    let b1 = same 1 (lit< tt) in
    let b2 = same 2 (lit< tt) in
    let b3 = same 3 (lit< tt) in
    let b4 = same 4 (lit< tt) in
    let b5 = same 5 (lit< tt) in
    let b6 = same 6 (lit< tt) in
    let b7 = same 7 (lit< tt) in
    omega arith

-- The bytes of a word make it again.
pub bytes_back : (v : ℕ) → v < 2 ^ 64 → word_of (bytes_of v) 0 ≡ v
unfolding word_of
bytes_back v fits = omega arith

-- Bytes that are taken out of a list make the word that they made in it.
word_there : (list : List ℕ) (i : ℕ) → first (part 8 list i) ≡ word_of list i
word_there list i = same_word (part 8 list i) list 0 i (λ j low. sym (at_first (part 8 list i) j) ∙ get_or-take 8 (drop (8 * i) list) j 0 low ∙ get_or-drop (8 * i) list j 0)

pub byte_facts : IsItem 8 first bytes_of 0 words_of put_word
unfolding word_of
byte_facts = record {
  some = omega arith;
  few = omega arith;
  zeros = refl;
  long = λ _. refl;
  back = bytes_back;
  whole = length-words_of;
  made = λ list i inside. word_shown list i 0 inside ∙ sym (word_there list i);
  lays = λ _ _ _ _. refl;
}

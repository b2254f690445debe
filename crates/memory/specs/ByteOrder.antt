-- Words in a list of bytes: eight bytes each, the low byte at the lowest address.
--
--   byte_at      a byte of a word, by its place in the word
--   word_of      the word that eight bytes of a list make
--   first        the word that eight bytes make
--   words_of     the words of the whole frames of a list
--   bytes_of     the eight bytes of a word
--   put_word     a list with a word put into it
--   ByteOrder    that byte j of word i is the list's byte 8 * i + j
use Rattle.std.specs.Prelude.{◌≡◌, ℕ, ◌+◌, ◌*◌, ◌/◌, ◌%◌, ◌^◌, ◌<◌, List, [], ◌∷◌, map, length, slice_index}
use Rattle.std.specs.List.{range_with_len}
use Rattle.memory.specs.Items.{laid}
use Rattle.memory.specs.Memories.{frames_in}

-- Byte j of word i.
abbrev pub byte_at : List ℕ → ℕ → ℕ → ℕ
byte_at list i j = slice_index list (8 * i + j)

-- Word i: each next byte counts 256 times as much as the one before it.
unfoldable pub word_of : List ℕ → ℕ → ℕ
word_of list i =
    byte_at list i 0 + byte_at list i 1 * 2 ^ 8 + byte_at list i 2 * 2 ^ 16 + byte_at list i 3 * 2 ^ 24
    + byte_at list i 4 * 2 ^ 32 + byte_at list i 5 * 2 ^ 40 + byte_at list i 6 * 2 ^ 48 + byte_at list i 7 * 2 ^ 56

-- The word that eight bytes make.
abbrev pub first : List ℕ → ℕ
first items = word_of items 0

-- The words of the whole frames of a list of bytes.
unfoldable pub words_of : List ℕ → List ℕ
words_of list = map (word_of list) (range_with_len 0 (512 * frames_in 4096 list))

-- The eight bytes of a word, the low one first.
abbrev pub bytes_of : ℕ → List ℕ
bytes_of w =
    w % 256 ∷ w / 2 ^ 8 % 256 ∷ w / 2 ^ 16 % 256 ∷ w / 2 ^ 24 % 256
    ∷ w / 2 ^ 32 % 256 ∷ w / 2 ^ 40 % 256 ∷ w / 2 ^ 48 % 256 ∷ w / 2 ^ 56 % 256 ∷ []

-- The list with the bytes of w in the place of word i, and all else as it was.
abbrev pub put_word : List ℕ → ℕ → ℕ → List ℕ
put_word list i w = laid 8 list i (bytes_of w)

-- Byte j of a word that a list of bytes shows, which is w / 256 ^ j % 256 of the word w, lies j places behind its first.
abbrev pub ByteOrder : Type 0
ByteOrder =
    (list : List ℕ) → ((k : ℕ) → k < length list → slice_index list k < 256)
    → (i j : ℕ) → i < length (words_of list) → j < 8
    → slice_index (words_of list) i / 256 ^ j % 256 ≡ slice_index list (8 * i + j)

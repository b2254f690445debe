-- The memory that a script supplies: a list of words or of bytes, shown as any memory is.
--
--   supplied_words, supplied_size    its words and its count of frames
--   supplied_beside                  what stands beside its words
--   supplied_means                   all of these, its meaning as a memory
--   frames_for                       how many frames a list of a length shows
--   AfterWrite                       that a write replaced one word of its list, and nothing else
--   zeros_beside                     what stands beside the words of a list of zeros
--   ZeroList                         that it is a list of zeros, of a kind and a length
--   supplied_laws                    that it is a memory
use Rattle.std.specs.Prelude.{◌≡◌, ℕ, ◌*◌, ◌/◌, ◌≤◌, min, List, [], length, replicate, vec_items, slice_set}
use Rattle.memory.specs.ByteLaws.{byte_facts}
use Rattle.memory.specs.ByteOrder.{put_word, words_of}
use Rattle.memory.specs.Items.{list_laws}
use Rattle.memory.specs.ItemLaws.{shows}
use Rattle.memory.specs.Memories.{Beside, Lawful, Meaning, beside_list, frames_in, shown, written}
use Rattle.memory.specs.WordLaws.{word_facts}
use Rattle.script.specs.declared.commands.ListKind.{ListKind}
use Rattle.script.specs.declared.commands.ListKind.TheVariants as kind
use Rattle.script.specs.declared.supplied.Supplied.{Supplied}
use Rattle.script.specs.declared.supplied.Supplied.TheVariants.{Words, Bytes}

-- the words of the whole frames of its list
abbrev pub supplied_words : Supplied → List ℕ
supplied_words (Words list) = shown (vec_items list)
supplied_words (Bytes list) = words_of (vec_items list)

-- how many frames those are
abbrev pub supplied_size : Supplied → ℕ
supplied_size (Words list) = frames_in 512 (vec_items list)
supplied_size (Bytes list) = frames_in 4096 (vec_items list)

-- what lies behind them in its list; the list is its own, so there is no loan
abbrev pub supplied_beside : Supplied → Beside
supplied_beside (Words list) = beside_list 1 (λ l. l) (vec_items list) []
supplied_beside (Bytes list) = beside_list 8 (λ l. l) (vec_items list) []

-- what it means as a memory
abbrev pub supplied_means : Meaning Supplied
supplied_means = record { words = supplied_words; size = supplied_size; beside = supplied_beside }

-- the whole frames of a list of that kind and length, 256 at the most
abbrev pub frames_for : ListKind → ℕ → ℕ
frames_for kind.Words n = min (n / 512) 256
frames_for kind.Bytes n = min (n / 4096) 256

-- what stands beside the words of a list of that kind and length that is zero throughout
abbrev pub zeros_beside : ListKind → ℕ → Beside
zeros_beside kind.Words n = beside_list 1 (λ l. l) (replicate n 0) []
zeros_beside kind.Bytes n = beside_list 8 (λ l. l) (replicate n 0) []

-- a list of that kind, so long, and zero throughout
abbrev pub ZeroList : ListKind → ℕ → Supplied → Type 0
ZeroList kind.Words size (Words list) = vec_items list ≡ replicate size 0
ZeroList kind.Bytes size (Bytes list) = vec_items list ≡ replicate size 0
ZeroList kind size supplied = ⊥

-- the list is of the same kind, and what a write of one word makes of it
abbrev pub AfterWrite : Supplied → ℕ → ℕ → Supplied → Type 0
AfterWrite (Words was) index value (Words is) = vec_items is ≡ written 1 slice_set (vec_items was) index value
AfterWrite (Bytes was) index value (Bytes is) = vec_items is ≡ written 8 put_word (vec_items was) index value
AfterWrite was index value is = ⊥

pub supplied_laws : Lawful supplied_means
supplied_laws = record { whole = whole; few = few }
  where
    whole : (s : Supplied) → length (supplied_words s) ≡ 512 * supplied_size s
    whole (Words list) = word_facts.whole (vec_items list)
    whole (Bytes list) = byte_facts.whole (vec_items list)

    few : (s : Supplied) → supplied_size s ≤ 256
    few (Words list) = (list_laws (shows word_facts) (λ l. l) (λ (l : List ℕ). l) (λ _. [])).few (vec_items list)
    few (Bytes list) = (list_laws (shows byte_facts) (λ l. l) (λ (l : List ℕ). l) (λ _. [])).few (vec_items list)

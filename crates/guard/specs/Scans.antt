-- Looking through the entries of every table there is, whether it can be reached from the root or not.
--
--   each_below      whether each number below one passes a test
--   is_table_of     whether a frame is a table of a level
--   wanted          whether an entry is the one that is looked for
--   clear_table, clear_frames   whether no entry of a table, or of the tables of a level, is
--   no_entry        whether none of any table of a level is
--   NoneAnywhere    the same, entry by entry
--   EntryByEntry    that the test of all tables says so
--   frame_words     the words of a frame
--   scanned         whether the scanner passes a frame
--   left_to_scan    whether what a scan has seen passes with what is left
use Rattle.std.specs.Prelude.{◌≡◌, ℕ, zero, suc, ◌+◌, ◌*◌, ◌<◌, Bool, true, false, not, ◌&&◌, ◌||◌, ◌==◌, List, ◌++◌, drop, length, nat_le, nat_lt, Option, Some, ◌↔◌, IsTrue, slice_get}
use Rattle.frames.specs.Kinds.{level_number}
use Rattle.frames.specs.declared.kinds.FrameKind.{FrameKind}
use Rattle.frames.specs.declared.kinds.FrameKind.TheVariants as kind
use Rattle.frames.specs.declared.kinds.Level.{Level}
use Rattle.scanner.specs.Rule.{bytes_of_words, passing}
use Rattle.scanner.specs.States.{seen}
use Rattle.scanner.specs.declared.scan.State.{State}
use Rattle.journal.specs.Pictures.{Picture}
use Rattle.paging.specs.Entries.{entry_at, frame_of, no_execute, present, writable}
use Rattle.guard.specs.Guarding.{words_from}
use Rattle.guard.specs.declared.scans.Sought.{Sought}
use Rattle.guard.specs.declared.scans.Sought.TheVariants.{Writable, Executable, Present}

-- Each number below n passes.
unfoldable pub each_below : ℕ → (ℕ → Bool) → Bool
each_below zero test = true
each_below (suc n) test = each_below n test && test n

-- A frame is a table of that level.
abbrev pub is_table_of : Level → Option FrameKind → Bool
is_table_of level (Some (kind.Table l)) = level_number l == level_number level
is_table_of level other = false

-- An entry is what is looked for: a present one that names a frame; for a writable one bit 1 is set, and for an executable one bit 63 is clear.
abbrev pub wanted : Sought → ℕ → Bool
wanted (Writable first count) entry = present entry && (writable entry && (nat_le first (frame_of entry) && nat_lt (frame_of entry) (first + count)))
wanted (Executable frame) entry = present entry && (not (no_execute entry) && frame_of entry == frame)
wanted (Present frame) entry = present entry && frame_of entry == frame

-- None of the first n entries of a table is, of which it has 512.
unfoldable pub clear_table : List ℕ → Sought → ℕ → ℕ → Bool
clear_table words sought table n = each_below n (λ index. not (wanted sought (entry_at words table index)))

-- No entry of the first n frames that are tables of a level is.
unfoldable pub clear_frames : List ℕ → List FrameKind → Level → Sought → ℕ → Bool
clear_frames words kinds level sought n = each_below n (λ table. not (is_table_of level (slice_get kinds table)) || clear_table words sought table 512)

-- No entry of any table of a level is.
abbrev pub no_entry : Picture → Level → Sought → Bool
no_entry p level sought = clear_frames p.words p.kinds level sought (length p.kinds)

-- Each single entry of each table of a level is another.
abbrev pub NoneAnywhere : Picture → Level → Sought → Type 0
NoneAnywhere p level sought = (table index : ℕ) → slice_get p.kinds table ≡ Some (kind.Table level) → index < 512 → wanted sought (entry_at p.words table index) ≡ false

-- The test of all tables says so of each entry of each of them.
abbrev pub EntryByEntry : Type 0
EntryByEntry = (p : Picture) (level : Level) (sought : Sought) → IsTrue (no_entry p level sought) ↔ NoneAnywhere p level sought

-- The 512 words of a frame.
abbrev pub frame_words : List ℕ → ℕ → List ℕ
frame_words words frame = words_from words (512 * frame) 512

-- The scanner passes a frame: all of its 4,096 bytes, as one run.
unfoldable pub scanned : List ℕ → ℕ → Bool
scanned words frame = passing (bytes_of_words (frame_words words frame))

-- What the rule says of what a scan has seen, followed by the words of a frame from one on. Only functions that are not public speak of this.
unfoldable pub left_to_scan : List ℕ → ℕ → ℕ → State → Bool
left_to_scan words frame i s = passing (seen s ++ bytes_of_words (drop i (frame_words words frame)))

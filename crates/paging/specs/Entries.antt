-- Entries of page tables: the words of a table, and what their bits mean.
--
--   present, writable, large, no_execute   what single bits of an entry say
--   frame_of                               the frame that an entry names
--   entry_at                               the entry of a table at an index
use Rattle.std.specs.Prelude.{ℕ, ◌+◌, ◌*◌, ◌/◌, ◌%◌, ◌^◌, Bool, ◌==◌, List, slice_index}

-- Bit 0: the entry names a frame.
abbrev pub present : ℕ → Bool
present entry = entry % 2 == 1

-- Bit 1: what is reached through the entry can be written.
abbrev pub writable : ℕ → Bool
writable entry = entry / 2 % 2 == 1

-- Bit 7: a present entry of a table of level 2, 3 or 4 would name a large page.
abbrev pub large : ℕ → Bool
large entry = entry / 2 ^ 7 % 2 == 1

-- Bit 63: what is reached through the entry cannot be executed.
abbrev pub no_execute : ℕ → Bool
no_execute entry = entry / 2 ^ 63 % 2 == 1

-- The number of the frame that the entry names, in bits 12 to 51.
abbrev pub frame_of : ℕ → ℕ
frame_of entry = entry / 2 ^ 12 % 2 ^ 40

-- The entry of a table at an index; 0, which is not present, where the memory has no such word.
abbrev pub entry_at : List ℕ → ℕ → ℕ → ℕ
entry_at words table index = slice_index words (512 * table + index)

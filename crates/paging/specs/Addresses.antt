-- Addresses: the index at each level, the offset in the frame, and which addresses can be used.
--
--   index_at             the index of an address at a level
--   offset_of            its offset in the frame, in bytes
--   parts_of, part_at    all of these, and the index at a level among them
--   joined               the number that parts make
--   repeated             what bits 48 to 63 add where they repeat bit 47
--   canonical, aligned   what is asked of an address before the walk
use Rattle.std.specs.Prelude.{ℕ, ◌+◌, ◌-◌, ◌*◌, ◌/◌, ◌%◌, ◌^◌, Bool, cond, ◌||◌, ◌==◌}
use Rattle.frames.specs.declared.kinds.Level.{Level}
use Rattle.frames.specs.declared.kinds.Level.TheVariants.{One, Two, Three, Four}
use Rattle.paging.specs.declared.parts.Split.{Split}

-- The index of an address at a level, nine bits for each.
abbrev pub index_at : Level → ℕ → ℕ
index_at Four address = address / 2 ^ 39 % 2 ^ 9
index_at Three address = address / 2 ^ 30 % 2 ^ 9
index_at Two address = address / 2 ^ 21 % 2 ^ 9
index_at One address = address / 2 ^ 12 % 2 ^ 9

-- The offset of an address in its frame, in bytes.
abbrev pub offset_of : ℕ → ℕ
offset_of address = address % 2 ^ 12

-- The parts of an address.
abbrev pub parts_of : ℕ → Split
parts_of address = record {
  four = index_at Four address;
  three = index_at Three address;
  two = index_at Two address;
  one = index_at One address;
  offset = offset_of address;
}

-- The part that is the index at a level.
abbrev pub part_at : Level → Split → ℕ
part_at Four parts = parts.four
part_at Three parts = parts.three
part_at Two parts = parts.two
part_at One parts = parts.one

-- The number that parts make.
abbrev pub joined : Split → ℕ
joined parts = parts.four * 2 ^ 39 + parts.three * 2 ^ 30 + parts.two * 2 ^ 21 + parts.one * 2 ^ 12 + parts.offset

-- What bits 48 to 63 add to those below where all of them are bit 47.
abbrev pub repeated : ℕ → ℕ
repeated address = cond (address / 2 ^ 47 % 2 == 1) (2 ^ 64 - 2 ^ 48) 0

-- Bits 48 to 63 repeat bit 47: bits 47 to 63 are all clear, or all set.
abbrev pub canonical : ℕ → Bool
canonical address = (address / 2 ^ 47 == 0) || (address / 2 ^ 47 == 2 ^ 17 - 1)

-- The address is a multiple of 8, the bytes of a word.
abbrev pub aligned : ℕ → Bool
aligned address = address % 8 == 0

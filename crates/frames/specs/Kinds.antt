-- Kinds of frames, and levels of tables.
--
--   level_number   the number of a level
--   level_of       the level of a number, if it is one
--   number_of      the number of a kind
--   is_plain, is_table, is_code, keeps_words, can_be_taken   what a frame can be asked to be
use Rattle.std.specs.Prelude.{ℕ, Bool, true, false, Some, None, Option, ◌==◌, cond}
use Rattle.frames.specs.declared.kinds.FrameKind.{FrameKind}
use Rattle.frames.specs.declared.kinds.FrameKind.TheVariants as kind
use Rattle.frames.specs.declared.kinds.Level.{Level}
use Rattle.frames.specs.declared.kinds.Level.TheVariants.{One, Two, Three, Four}

-- The number of a level, 1 to 4.
abbrev pub level_number : Level → ℕ
level_number One = 1
level_number Two = 2
level_number Three = 3
level_number Four = 4

-- The level of that number; there is none but 1 to 4.
abbrev pub level_of : ℕ → Option Level
level_of n =
    cond (n == 1) (Some One)
    (cond (n == 2) (Some Two)
    (cond (n == 3) (Some Three)
    (cond (n == 4) (Some Four) None)))

-- The number of a kind, 0 to 8; that of a table is the number of its level.
abbrev pub number_of : FrameKind → ℕ
number_of kind.Plain = 0
number_of (kind.Table level) = level_number level
number_of kind.Region = 5
number_of kind.Code = 6
number_of kind.Log = 7
number_of kind.Reserve = 8

-- What a frame can be asked to be; one that does not exist is none of these.
abbrev pub is_plain : Option FrameKind → Bool
is_plain (Some kind.Plain) = true
is_plain other = false

abbrev pub is_table : Option FrameKind → Bool
is_table (Some (kind.Table level)) = true
is_table other = false

abbrev pub is_code : Option FrameKind → Bool
is_code (Some kind.Code) = true
is_code other = false

-- A frame of a kind whose words a journal gives: a table, and one that is or was a region's.
abbrev pub keeps_words : Option FrameKind → Bool
keeps_words (Some (kind.Table level)) = true
keeps_words (Some kind.Region) = true
keeps_words (Some kind.Reserve) = true
keeps_words other = false

abbrev pub can_be_taken : Option FrameKind → Bool
can_be_taken (Some kind.Plain) = true
can_be_taken (Some kind.Reserve) = true
can_be_taken other = false

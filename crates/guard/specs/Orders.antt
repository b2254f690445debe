-- The questions of calls, and the order in which each call asks them.
--
--   kind_of                  the kind of a frame
--   is_frame, is_level, unwritable, is_index, is_one_lower, writes_plain, executes_code, is_not_root, unnamed_at, unnamed_above, is_governed,
--   is_region_length, is_write_length, frames_exist, unexecutable, has_place   the questions that stand in no other file, each with its number: tests of the state and of the call's figures
--   entry_questions          how the order of a set ends
--   questions                the order of each call
use Rattle.std.specs.Prelude.{ℕ, ◌+◌, Bool, true, false, cond, not, ◌&&◌, ◌||◌, ◌==◌, List, [], ◌∷◌, length, nat_le, nat_lt, Some, None, Option, is_some, slice_get}
use Rattle.frames.specs.Kinds.{level_number, level_of, is_code, is_plain, is_table}
use Rattle.frames.specs.Regions.{ends_inside, frames_needed, is_live, never_taken}
use Rattle.frames.specs.Questions.{Question}
use Rattle.frames.specs.declared.kinds.FrameKind.{FrameKind}
use Rattle.frames.specs.declared.kinds.FrameKind.TheVariants as kind
use Rattle.frames.specs.declared.kinds.Level.{Level}
use Rattle.frames.specs.declared.kinds.Level.TheVariants.{One, Four}
use Rattle.journal.specs.Bytes.{words_for}
use Rattle.journal.specs.Pictures.{free_frames, region_of}
use Rattle.paging.specs.Entries.{frame_of, large, no_execute, present, writable}
use Rattle.paging.specs.Questions.{access_questions}
use Rattle.paging.specs.declared.faults.Access.TheVariants as access
use Rattle.policy.specs.Policies.{Meaning, permitted}
use Rattle.guard.specs.Calls.{Request, declare, set, retire, take, write, release, accept, unaccept, load_register, load_root, load, store, fetch, drain}
use Rattle.guard.specs.Guarding.{Guarded, has_room}
use Rattle.guard.specs.Registers.{starting}
use Rattle.guard.specs.Scans.{is_table_of, no_entry, scanned}
use Rattle.guard.specs.States.{State}
use Rattle.guard.specs.declared.scans.Sought.TheVariants.{Executable, Present, Writable}

-- The kind of a frame, if there is such a frame.
abbrev pub kind_of : Guarded → ℕ → Option FrameKind
kind_of g frame = slice_get g.picture.kinds frame

-- 10: there is such a frame.
abbrev pub is_frame : Guarded → ℕ → Bool
is_frame g frame = nat_lt frame (length g.picture.kinds)

-- 11: there is such a level.
abbrev pub is_level : ℕ → Bool
is_level level = is_some (level_of level)

-- 13: no level-1 table anywhere holds a writable entry that names one of n frames from a first one on.
abbrev pub unwritable : Guarded → ℕ → ℕ → Bool
unwritable g first n = no_entry g.picture One (Writable first n)

-- 15: a table has such an index.
abbrev pub is_index : ℕ → Bool
is_index index = nat_le index 511

-- 18: a frame is a table one level lower than another.
abbrev pub is_one_lower : Option FrameKind → Option FrameKind → Bool
is_one_lower (Some (kind.Table level)) (Some (kind.Table lower)) = level_number lower + 1 == level_number level
is_one_lower table other = false

-- 19: an entry has bit 1 clear, or names a plain frame.
abbrev pub writes_plain : Guarded → ℕ → Bool
writes_plain g entry = not (writable entry) || is_plain (kind_of g (frame_of entry))

-- 20: an entry has bit 63 set, or names a code frame.
abbrev pub executes_code : Guarded → ℕ → Bool
executes_code g entry = no_execute entry || is_code (kind_of g (frame_of entry))

-- 21: the root is another frame, or there is none.
abbrev pub is_not_root : Option ℕ → ℕ → Bool
is_not_root None frame = true
is_not_root (Some root) frame = not (root == frame)

-- 22: no table of the next higher level holds a present entry that names the frame; there is no level above 4.
abbrev pub unnamed_at : Guarded → Option Level → ℕ → Bool
unnamed_at g (Some level) frame = no_entry g.picture level (Present frame)
unnamed_at g None frame = true

abbrev pub unnamed_above : Guarded → Option FrameKind → ℕ → Bool
unnamed_above g (Some (kind.Table level)) frame = unnamed_at g (level_of (level_number level + 1)) frame
unnamed_above g other frame = true

-- 25: the policy governs the region.
abbrev pub is_governed : {P : Type 0} → Meaning P → P → ℕ → Bool
is_governed means policy region = nat_lt region (means.count policy)

-- 27: a region can have so many bytes, and a write so many.
abbrev pub is_region_length : ℕ → Bool
is_region_length n = nat_le 1 n && nat_le n 65536

abbrev pub is_write_length : ℕ → Bool
is_write_length n = nat_le 1 n && nat_le n 1024

-- 28: each of n frames from a first one on is a frame of the memory.
abbrev pub frames_exist : Guarded → ℕ → ℕ → Bool
frames_exist g first n = nat_le (first + n) (length g.picture.kinds)

-- 32: no level-1 table anywhere holds an executable entry that names the frame.
abbrev pub unexecutable : Guarded → ℕ → Bool
unexecutable g frame = no_entry g.picture One (Executable frame)

-- 34: a list of that length has room for the words that are held.
abbrev pub has_place : Guarded → ℕ → Bool
has_place g room = nat_le g.held room

-- How the order of a set ends: for a present entry in a table of level 1, for one in any other table, and for an entry that is not present.
abbrev pub entry_questions : Guarded → Option FrameKind → ℕ → List Question
entry_questions g table entry =
    cond (present entry)
    (cond (is_table_of One table)
    ((16, is_frame g (frame_of entry))
    ∷ (19, writes_plain g entry)
    ∷ (20, executes_code g entry)
    ∷ (33, has_room g 2)
    ∷ [])
    ((16, is_frame g (frame_of entry))
    ∷ (17, not (large entry))
    ∷ (18, is_one_lower table (kind_of g (frame_of entry)))
    ∷ (33, has_room g 2)
    ∷ []))
    ((33, has_room g 2)
    ∷ [])

-- The order of each call.
abbrev pub questions : {P : Type 0} → Meaning P → Request → State P → List Question
questions means (declare frame level) s =
    (1, s.sound)
    ∷ (10, is_frame s.guarded frame)
    ∷ (11, is_level level)
    ∷ (12, is_plain (kind_of s.guarded frame))
    ∷ (13, unwritable s.guarded frame 1)
    ∷ (33, has_room s.guarded 1)
    ∷ []
questions means (set table index entry) s =
    (1, s.sound)
    ∷ (10, is_frame s.guarded table)
    ∷ (14, is_table (kind_of s.guarded table))
    ∷ (15, is_index index)
    ∷ entry_questions s.guarded (kind_of s.guarded table) entry
questions means (retire frame) s =
    (1, s.sound)
    ∷ (10, is_frame s.guarded frame)
    ∷ (14, is_table (kind_of s.guarded frame))
    ∷ (21, is_not_root s.root frame)
    ∷ (22, unnamed_above s.guarded (kind_of s.guarded frame) frame)
    ∷ (33, has_room s.guarded 1)
    ∷ []
questions means (take region first n) s =
    (1, s.sound)
    ∷ (25, is_governed means s.policy region)
    ∷ (26, never_taken (region_of s.guarded.picture region))
    ∷ (27, is_region_length n)
    ∷ (28, frames_exist s.guarded first (frames_needed n))
    ∷ (12, free_frames s.guarded.picture.kinds first (frames_needed n))
    ∷ (13, unwritable s.guarded first (frames_needed n))
    ∷ (33, has_room s.guarded 1)
    ∷ []
questions means (write region offset bytes) s =
    (1, s.sound)
    ∷ (25, is_governed means s.policy region)
    ∷ (26, is_live (region_of s.guarded.picture region))
    ∷ (27, is_write_length (length bytes))
    ∷ (28, ends_inside (region_of s.guarded.picture region) offset (length bytes))
    ∷ (29, permitted (means.opens s.policy region) offset (length bytes))
    ∷ (33, has_room s.guarded (2 + words_for (length bytes)))
    ∷ []
questions means (release region) s =
    (1, s.sound)
    ∷ (25, is_governed means s.policy region)
    ∷ (26, is_live (region_of s.guarded.picture region))
    ∷ (33, has_room s.guarded 1)
    ∷ []
questions means (accept frame) s =
    (1, s.sound)
    ∷ (10, is_frame s.guarded frame)
    ∷ (12, is_plain (kind_of s.guarded frame))
    ∷ (13, unwritable s.guarded frame 1)
    ∷ (30, scanned s.guarded.picture.words frame)
    ∷ (33, has_room s.guarded 1)
    ∷ []
questions means (unaccept frame) s =
    (1, s.sound)
    ∷ (10, is_frame s.guarded frame)
    ∷ (31, is_code (kind_of s.guarded frame))
    ∷ (32, unexecutable s.guarded frame)
    ∷ (33, has_room s.guarded 1)
    ∷ []
questions means (load_register register value) s =
    (1, s.sound)
    ∷ (24, starting register value)
    ∷ []
questions means (load_root value) s =
    (1, s.sound)
    ∷ (10, is_frame s.guarded (frame_of value))
    ∷ (23, is_table_of Four (kind_of s.guarded (frame_of value)))
    ∷ []
questions means (load address) s = (1, s.sound) ∷ access_questions s.guarded.picture.words s.root address access.Load
questions means (store address value) s = (1, s.sound) ∷ access_questions s.guarded.picture.words s.root address access.Store
questions means (fetch address) s = (1, s.sound) ∷ access_questions s.guarded.picture.words s.root address access.Fetch
questions means (drain room) s =
    (1, s.sound)
    ∷ (34, has_place s.guarded room)
    ∷ []

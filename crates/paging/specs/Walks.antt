-- The walk: how an address finds its frame through tables of four levels, and where a walk ends.
--
--   named                   the frame that a table's entry for the address names
--   table_at, entry_on      the table and the entry that are read at a level
--   page_of                 the frame that is reached
--   passes                  whether an entry has what that lack is the want of
--   permits, lack_of        whether an entry permits an access, and what it lacks where it does not
--   on_all, first_failing   of a test of each level: whether all pass, and the first from 4 down that fails
--   all_present, all_writable, all_executable   of the four entries that a walk reads
--   or_fault                what comes of a test of one entry
--   ends_at                 what comes of a test of all four
--   walked                  what a walk answers
--   Leads, Translates       what it means that tables lead from an address to a frame
--   AnswersTranslate        that a walk's answers are those, and no others
--   EndsAt                  what a fault says of where and why a walk ended
--   FaultsSay               that a walk's faults say so, and no others do
use Rattle.std.specs.Prelude.{◌≡◌, ◌≢◌, ℕ, ◌<◌, Bool, true, false, cond, not, ◌&&◌, List, Some, None, Ok, Err, Option, Result}
use Rattle.frames.specs.Kinds.{level_number}
use Rattle.frames.specs.declared.kinds.Level.{Level}
use Rattle.frames.specs.declared.kinds.Level.TheVariants.{One, Two, Three, Four}
use Rattle.paging.specs.Addresses.{index_at}
use Rattle.paging.specs.Entries.{entry_at, frame_of, no_execute, present, writable}
use Rattle.paging.specs.declared.faults.Access.{Access}
use Rattle.paging.specs.declared.faults.Access.TheVariants.{Load, Store, Fetch}
use Rattle.paging.specs.declared.faults.Lack.{Lack}
use Rattle.paging.specs.declared.faults.Lack.TheVariants.{Absent, ReadOnly, NoExecute}
use Rattle.paging.specs.declared.faults.WalkFault.{WalkFault}

-- The frame that a table's entry for the address at a level names.
abbrev pub named : List ℕ → ℕ → Level → ℕ → ℕ
named words address level table = frame_of (entry_at words table (index_at level address))

-- The table that is read at a level: the root at level 4, else what the entry read before it names.
abbrev pub table_at : List ℕ → ℕ → ℕ → Level → ℕ
table_at words root address Four = root
table_at words root address Three = named words address Four root
table_at words root address Two = named words address Three (named words address Four root)
table_at words root address One = named words address Two (named words address Three (named words address Four root))

-- The entry that is read at a level.
abbrev pub entry_on : List ℕ → ℕ → ℕ → Level → ℕ
entry_on words root address level = entry_at words (table_at words root address level) (index_at level address)

-- The frame that is reached: the one that the entry of level 1 names.
abbrev pub page_of : List ℕ → ℕ → ℕ → ℕ
page_of words root address = frame_of (entry_on words root address One)

-- The entry has what that lack is the want of.
abbrev pub passes : Lack → ℕ → Bool
passes Absent entry = present entry
passes ReadOnly entry = writable entry
passes NoExecute entry = not (no_execute entry)

-- The entry, where it is present, permits the access.
abbrev pub permits : Access → ℕ → Bool
permits Load entry = true
permits Store entry = writable entry
permits Fetch entry = not (no_execute entry)

-- What an entry lacks that does not permit the access; for a load, which every present entry permits, it is presence.
abbrev pub lack_of : Access → Lack
lack_of Load = Absent
lack_of Store = ReadOnly
lack_of Fetch = NoExecute

-- All four levels pass a test.
abbrev pub on_all : (Level → Bool) → Bool
on_all test = test Four && (test Three && (test Two && test One))

-- The first level from 4 down that fails a test, if one does.
abbrev pub first_failing : (Level → Bool) → Option Level
first_failing test = cond (test Four) (cond (test Three) (cond (test Two) (cond (test One) None (Some One)) (Some Two)) (Some Three)) (Some Four)

-- All four entries are present.
abbrev pub all_present : List ℕ → ℕ → ℕ → Bool
all_present words root address = on_all (λ level. present (entry_on words root address level))

-- All four entries are writable.
abbrev pub all_writable : List ℕ → ℕ → ℕ → Bool
all_writable words root address = on_all (λ level. writable (entry_on words root address level))

-- All four entries have no-execute clear.
abbrev pub all_executable : List ℕ → ℕ → ℕ → Bool
all_executable words root address = on_all (λ level. not (no_execute (entry_on words root address level)))

-- An answer where an entry passed a test, and else the fault that names its level and the table from which it was read.
abbrev pub or_fault : {A : Type 0} → Bool → A → Lack → Level → ℕ → Result A WalkFault
or_fault passed answer lack level table = cond passed (Ok answer) (Err (record { lack = lack; level = level; table = table }))

-- A fault at the first level that fails, with the table that is read there; where none fails, what comes next.
abbrev pub ends_at : Lack → (Level → ℕ) → Option Level → Result ℕ WalkFault → Result ℕ WalkFault
ends_at lack table_on None next = next
ends_at lack table_on (Some level) next = Err (record { lack = lack; level = level; table = table_on level })

-- What a walk answers: presence is asked at all four levels first, then what the access needs; the answer is the frame that is reached.
abbrev pub walked : List ℕ → ℕ → ℕ → Access → Result ℕ WalkFault
walked words root address access =
    ends_at Absent (table_at words root address) (first_failing (λ level. present (entry_on words root address level)))
    (ends_at (lack_of access) (table_at words root address) (first_failing (λ level. permits access (entry_on words root address level)))
    (Ok (page_of words root address)))

-- A table leads to a frame: its entry at the address's index for the level is present, permits the access, and names the frame.
pub record Leads (words : List ℕ) (address : ℕ) (access : Access) (level : Level) (table frame : ℕ) : Type 0 where
  pub is_present : present (entry_at words table (index_at level address)) ≡ true
  pub is_permitted : permits access (entry_at words table (index_at level address)) ≡ true
  pub names : frame_of (entry_at words table (index_at level address)) ≡ frame

-- The tables translate an address to a frame for an access: the root, of level 4, leads to a table of level 3, that to one of level 2,
-- that to one of level 1, and that to the frame, of 4 KiB. So for a store each of the four entries is writable, and for a fetch each has
-- no-execute clear. Whether the address is canonical is asked apart.
pub record Translates (words : List ℕ) (root address frame : ℕ) (access : Access) : Type 0 where
  pub third : ℕ
  pub second : ℕ
  pub first : ℕ
  pub from_root : Leads words address access Four root third
  pub from_third : Leads words address access Three third second
  pub from_second : Leads words address access Two second first
  pub from_first : Leads words address access One first frame

-- A walk answers with a frame exactly where the tables translate the address to it.
pub record AnswersTranslate : Type 0 where
  pub answered : (words : List ℕ) (root address frame : ℕ) (access : Access) → walked words root address access ≡ Ok frame → Translates words root address frame access
  pub answers : (words : List ℕ) (root address frame : ℕ) (access : Access) → Translates words root address frame access → walked words root address access ≡ Ok frame

-- A fault says where and why a walk ended.
pub record EndsAt (words : List ℕ) (root address : ℕ) (access : Access) (fault : WalkFault) : Type 0 where
  -- The entry at the level fails the test for that lack, and the table is the one from which that entry was read;
  pub fails : passes fault.lack (entry_on words root address fault.level) ≡ false
  pub table : fault.table ≡ table_at words root address fault.level
  -- every entry above it passes that test;
  pub above : (level : Level) → level_number fault.level < level_number level → passes fault.lack (entry_on words root address level) ≡ true
  -- and where it is not presence that is lacking, all four entries are present, and what is lacking is what the access needs.
  pub presence : fault.lack ≢ Absent → all_present words root address ≡ true
  pub needed : fault.lack ≢ Absent → fault.lack ≡ lack_of access

-- A walk ends with a fault exactly where the fault says where and why.
pub record FaultsSay : Type 0 where
  pub ended : (words : List ℕ) (root address : ℕ) (access : Access) (fault : WalkFault) → walked words root address access ≡ Err fault → EndsAt words root address access fault
  pub ends : (words : List ℕ) (root address : ℕ) (access : Access) (fault : WalkFault) → EndsAt words root address access fault → walked words root address access ≡ Err fault

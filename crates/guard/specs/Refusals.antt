-- Why a call is refused.
--
--   refusal_number   the number of the question that had a no
--   refusal_text     what happened, and what to do
use Rattle.std.specs.Prelude.{ℕ, List, codes}
use Rattle.guard.specs.declared.refusals.Refusal.{Refusal}
use Rattle.guard.specs.declared.refusals.Refusal.TheVariants as reason

-- The number of the question that had a no.
abbrev pub refusal_number : Refusal → ℕ
refusal_number reason.BadFigures = 1
refusal_number reason.NoFrame = 10
refusal_number reason.NoLevel = 11
refusal_number reason.NotPlain = 12
refusal_number reason.Writable = 13
refusal_number reason.NotTable = 14
refusal_number reason.NoIndex = 15
refusal_number reason.NamesNoFrame = 16
refusal_number reason.LargePage = 17
refusal_number reason.NamesNoTable = 18
refusal_number reason.NamesNotPlain = 19
refusal_number reason.NamesNotCode = 20
refusal_number reason.Root = 21
refusal_number reason.Named = 22
refusal_number reason.NotTopTable = 23
refusal_number reason.StartingBits = 24
refusal_number reason.Ungoverned = 25
refusal_number reason.RegionState = 26
refusal_number reason.Length = 27
refusal_number reason.Outside = 28
refusal_number reason.Forbidden = 29
refusal_number reason.Unscanned = 30
refusal_number reason.NotCode = 31
refusal_number reason.Executable = 32
refusal_number reason.JournalFull = 33
refusal_number reason.ShortList = 34

-- What happened, and what to do.
abbrev pub refusal_text : Refusal → List ℕ
refusal_text reason.BadFigures = codes "the machine was made on bad figures: make another on 8 to 256 frames and 1 to 16 log frames of them"
refusal_text reason.NoFrame = codes "there is no such frame: name one below the memory's count"
refusal_text reason.NoLevel = codes "there is no such level: name one of 1 to 4"
refusal_text reason.NotPlain = codes "a frame is in use: name plain frames, or for a take plain or reserve ones"
refusal_text reason.Writable = codes "a writable entry names a frame: first set that entry without bit 1, or not present"
refusal_text reason.NotTable = codes "the frame is not a table: declare it first"
refusal_text reason.NoIndex = codes "a table has no such entry: name an index of at most 511"
refusal_text reason.NamesNoFrame = codes "the entry names a frame that there is not: look at its bits 12 to 51"
refusal_text reason.LargePage = codes "the entry would name a large page: clear its bit 7"
refusal_text reason.NamesNoTable = codes "the entry names no table one level lower: declare that frame first"
refusal_text reason.NamesNotPlain = codes "a writable entry can name a plain frame alone: clear its bit 1"
refusal_text reason.NamesNotCode = codes "an executable entry can name a code frame alone: set its bit 63, or accept that frame first"
refusal_text reason.Root = codes "the table is the root: load another root first"
refusal_text reason.Named = codes "an entry one level up names the table: first set that entry not present"
refusal_text reason.NotTopTable = codes "the frame is not a table of level 4: declare one first"
refusal_text reason.StartingBits = codes "a starting bit of the register is missing: set it in the value"
refusal_text reason.Ungoverned = codes "the policy has no such region: name one below its count"
refusal_text reason.RegionState = codes "the region was taken before, or is not live: name another"
refusal_text reason.Length = codes "such a call cannot have that length: take 1 to 65536 bytes, write 1 to 1024"
refusal_text reason.Outside = codes "this would end outside: a take in the memory's frames, a write in its region"
refusal_text reason.Forbidden = codes "the policy forbids it: some of these bytes are closed"
refusal_text reason.Unscanned = codes "the frame's code could change the processor's protection: take out that sequence"
refusal_text reason.NotCode = codes "the frame is not code: nothing is to be undone"
refusal_text reason.Executable = codes "an executable entry names the frame: first set that entry with bit 63, or not present"
refusal_text reason.JournalFull = codes "the journal has no room for the record: drain it first"
refusal_text reason.ShortList = codes "the list is shorter than the journal: supply a longer one"

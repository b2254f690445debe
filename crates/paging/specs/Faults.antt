-- What is shown of a fault: what happened, and what to do.
--
--   access_text, lack_text, walk_text, stopped_text, fault_text   by the type
use Rattle.std.specs.Prelude.{ℕ, true, List, ◌++◌, codes, decimal}
use Rattle.std.specs.Fmt.{digits}
use Rattle.frames.specs.Kinds.{level_number}
use Rattle.paging.specs.declared.faults.Access.{Access}
use Rattle.paging.specs.declared.faults.Access.TheVariants.{Load, Store, Fetch}
use Rattle.paging.specs.declared.faults.AccessFault.{AccessFault}
use Rattle.paging.specs.declared.faults.AccessFault.TheVariants.{BadFigures, NotCanonical, Unaligned, NoRoot, Walk}
use Rattle.paging.specs.declared.faults.Lack.{Lack}
use Rattle.paging.specs.declared.faults.Lack.TheVariants.{Absent, ReadOnly, NoExecute}
use Rattle.paging.specs.declared.faults.Stopped.{Stopped}
use Rattle.paging.specs.declared.faults.WalkFault.{WalkFault}

-- The word for an access.
abbrev pub access_text : Access → List ℕ
access_text Load = codes "load"
access_text Store = codes "store"
access_text Fetch = codes "fetch"

-- What an entry lacks.
abbrev pub lack_text : Lack → List ℕ
lack_text Absent = codes "the entry is not present: set one that is"
lack_text ReadOnly = codes "the entry permits no store: set one with bit 1 set"
lack_text NoExecute = codes "the entry permits no fetch: set one with bit 63 clear"

-- Where a walk ended.
abbrev pub walk_text : WalkFault → List ℕ
walk_text fault = codes "level " ++ (decimal (level_number fault.level) ++ (codes ", table " ++ (decimal fault.table ++ (codes ": " ++ lack_text fault.lack))))

-- The same, with the access and the address, in upper-case hexadecimal digits.
abbrev pub stopped_text : Stopped → List ℕ
stopped_text stopped = codes "the " ++ (access_text stopped.access ++ (codes " at " ++ (digits 16 true stopped.address ++ (codes " ended at " ++ walk_text stopped.fault))))

-- Why an access is refused.
abbrev pub fault_text : AccessFault → List ℕ
fault_text BadFigures = codes "the machine was made on bad figures: make another on 8 to 256 frames and 1 to 16 log frames of them"
fault_text NotCanonical = codes "bits 48 to 63 of the address do not repeat its bit 47: use one where they do"
fault_text Unaligned = codes "the address is not a multiple of 8: use that of a whole word"
fault_text NoRoot = codes "no root was loaded: load CR3 first"
fault_text (Walk stopped) = stopped_text stopped

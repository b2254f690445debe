-- The questions of an access, and the numbers of its faults.
--
--   lack_number, fault_number   the number of a no
--   stopped_in                  the walk's fault in a refusal, if it was the walk
--   of_root                     a test of the root, where there is one
--   access_questions            what an access asks, in its order
--   place_in, place_reached     the index in the memory of a frame's word, and of the word that is reached
--   lifted                      the index of the word that an access reaches, or why none, where the walk has answered
--   walked_from                 the same, from the root on if there is one
--   translated                  the same, after what is asked of the address
use Rattle.std.specs.Prelude.{ℕ, ◌+◌, ◌*◌, ◌/◌, Bool, true, cond, List, [], ◌∷◌, Some, None, Ok, Err, Option, Result, is_some}
use Rattle.frames.specs.Questions.{Question}
use Rattle.paging.specs.Addresses.{aligned, canonical, offset_of}
use Rattle.paging.specs.Walks.{all_executable, all_present, all_writable, page_of, walked}
use Rattle.paging.specs.declared.faults.Access.{Access}
use Rattle.paging.specs.declared.faults.Access.TheVariants.{Load, Store, Fetch}
use Rattle.paging.specs.declared.faults.AccessFault.{AccessFault}
use Rattle.paging.specs.declared.faults.AccessFault.TheVariants.{BadFigures, NotCanonical, Unaligned, NoRoot, Walk}
use Rattle.paging.specs.declared.faults.Lack.{Lack}
use Rattle.paging.specs.declared.faults.Lack.TheVariants.{Absent, ReadOnly, NoExecute}
use Rattle.paging.specs.declared.faults.Stopped.{Stopped}
use Rattle.paging.specs.declared.faults.WalkFault.{WalkFault}

-- The number of a walk's no.
abbrev pub lack_number : Lack → ℕ
lack_number Absent = 43
lack_number ReadOnly = 44
lack_number NoExecute = 45

-- The number of an access's no.
abbrev pub fault_number : AccessFault → ℕ
fault_number BadFigures = 1
fault_number NotCanonical = 40
fault_number Unaligned = 41
fault_number NoRoot = 42
fault_number (Walk stopped) = lack_number stopped.fault.lack

-- Where the walk ended, if it was the walk.
abbrev pub stopped_in : AccessFault → Option Stopped
stopped_in (Walk stopped) = Some stopped
stopped_in other = None

-- A test of the root; where there is none, 42 has its no before it is asked.
abbrev pub of_root : Option ℕ → (ℕ → Bool) → Bool
of_root (Some root) test = test root
of_root None test = true

-- Is the address canonical (40) and aligned (41), is there a root (42), are all four entries present (43), and, for a store, are all of them
-- writable (44), or, for a fetch, have all of them no-execute clear (45)?
abbrev pub access_questions : List ℕ → Option ℕ → ℕ → Access → List Question
access_questions words root address Load =
    (40, canonical address)
    ∷ (41, aligned address)
    ∷ (42, is_some root)
    ∷ (43, of_root root (λ r. all_present words r address))
    ∷ []
access_questions words root address Store =
    (40, canonical address)
    ∷ (41, aligned address)
    ∷ (42, is_some root)
    ∷ (43, of_root root (λ r. all_present words r address))
    ∷ (44, of_root root (λ r. all_writable words r address))
    ∷ []
access_questions words root address Fetch =
    (40, canonical address)
    ∷ (41, aligned address)
    ∷ (42, is_some root)
    ∷ (43, of_root root (λ r. all_present words r address))
    ∷ (45, of_root root (λ r. all_executable words r address))
    ∷ []

-- The index in the memory of the word of a frame at an address's offset.
abbrev pub place_in : ℕ → ℕ → ℕ
place_in frame address = 512 * frame + offset_of address / 8

-- The index of the word that is reached.
abbrev pub place_reached : List ℕ → ℕ → ℕ → ℕ
place_reached words root address = place_in (page_of words root address) address

-- The index of the word that an access reaches, or why it reaches none, where the walk has answered: the place in the frame that is reached; or the walk's fault
-- whole, with the address and the access beside it.
abbrev pub lifted : ℕ → Access → Result ℕ WalkFault → Result ℕ AccessFault
lifted address access (Ok page) = Ok (place_in page address)
lifted address access (Err fault) = Err (Walk (record { fault = fault; address = address; access = access }))

-- The same from a root on, if there is one.
abbrev pub walked_from : List ℕ → Option ℕ → ℕ → Access → Result ℕ AccessFault
walked_from words (Some root) address access = lifted address access (walked words root address access)
walked_from words None address access = Err NoRoot

-- The same, after what is asked of the address.
abbrev pub translated : List ℕ → Option ℕ → ℕ → Access → Result ℕ AccessFault
translated words root address access = cond (canonical address) (cond (aligned address) (walked_from words root address access) (Err Unaligned)) (Err NotCanonical)

-- What comes of reading.
--
--   Gives           that a call answered with the value that there is, or said that there is none
--   wants_memory    that a call answered that there was no memory
--   sentence        what is shown of either failure
use Rattle.std.specs.Prelude.{◌≡◌, ℕ, Bool, true, false, List, Some, None, Ok, Err, codes, Option, Result}
use Rattle.text.specs.declared.outcomes.Unread.{Unread}
use Rattle.text.specs.declared.outcomes.Unread.TheVariants.{Unreadable, Memory}

-- `Ok` where there is a value, which f shows of the answer; `Unreadable` where there is none; a want of memory tells nothing
abbrev pub Gives : {A B : Type 0} → (A → B) → Result A Unread → Option B → Type 0
Gives f (Ok a) o = o ≡ Some (f a)
Gives f (Err Unreadable) o = o ≡ None
Gives f (Err Memory) o = Unit {0}

-- `Gives` tells nothing where this is true: a contract says beside it when it can be
abbrev pub wants_memory : {A : Type 0} → Result A Unread → Bool
wants_memory (Ok a) = false
wants_memory (Err Unreadable) = false
wants_memory (Err Memory) = true

-- what happened, and what to do
abbrev pub sentence : Unread → List ℕ
sentence Unreadable = codes "the line cannot be read: mend it and send it again"
sentence Memory = codes "no memory for the line: free some and send it again"

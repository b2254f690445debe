-- The scanner's states: what each stands for, and how bytes change it.
-- Names: `forbidden_text`, `seen`, `forbids`, `next`, `step`, `Stands`, `feed_all`, `Fed`.
use Rattle.std.specs.Prelude.{◌≡◌, ℕ, Bool, true, false, if◌then◌else◌, ◌&&◌, List, [], ◌∷◌, ◌++◌, codes, Decides}
use Rattle.scanner.specs.Classes.{class_of}
use Rattle.scanner.specs.declared.classes.ByteClass.{ByteClass}
use Rattle.scanner.specs.declared.classes.ByteClass.TheVariants as class
use Rattle.scanner.specs.Rule.{passing, Clean}
use Rattle.scanner.specs.declared.scan.State.{State}
use Rattle.scanner.specs.declared.scan.State.TheVariants.{Nothing, Lead, Group}

-- what happened where a sequence completes, and what to do
abbrev pub forbidden_text : List ℕ
forbidden_text = codes "the code could change the processor's protection: take out that sequence"

-- the bytes that a state stands for: none, 0F, or 0F 01
abbrev pub seen : State → List ℕ
seen Nothing = []
seen Lead = 15 ∷ []
seen Group = 15 ∷ 1 ∷ []

-- a byte of this class completes a forbidden sequence
abbrev pub forbids : State → ByteClass → Bool
forbids Lead class.Writes = true
forbids Group class.Loads = true
forbids s c = false

-- the state after a byte of this class that completes none
abbrev pub next : State → ByteClass → State
next s class.Lead = Lead
next Lead class.Group = Group
next s c = Nothing

-- one byte of a class: whether the scan goes on, and the state after, which a refusal leaves as it was
abbrev pub step : State → ByteClass → Bool × State
step s c = if forbids s c then (false, s) else (true, next s c)

-- the class c stands for the byte b: in each state, and whatever follows, the step by c keeps the rule's answer
abbrev pub Stands : ℕ → ByteClass → Type 0
Stands b c = (s : State) (xs : List ℕ) →
    passing (seen s ++ (b ∷ xs)) ≡ ((step s c).0 && passing (seen (step s c).1 ++ xs))

-- a run of bytes: whether all went on, and the state after the last that was fed
unfoldable pub feed_all : State → List ℕ → Bool × State
feed_all s [] = (true, s)
feed_all s (b ∷ bs) = if (step s (class_of b)).0 then feed_all (step s (class_of b)).1 bs else step s (class_of b)

-- feeding the bytes bs in the state s answered r and left the state t
pub record Fed (s : State) (bs : List ℕ) (r : Bool) (t : State) : Type 0 where
  -- as the run of bytes says
  pub exact : (r, t) ≡ feed_all s bs
  -- whatever follows, the rule's answer is kept
  pub means : (xs : List ℕ) → passing (seen s ++ (bs ++ xs)) ≡ (r && passing (seen t ++ xs))
  -- and so is the answer where nothing follows
  pub ends : passing (seen s ++ bs) ≡ (r && passing (seen t))
  -- which says, place by place, whether what was seen with these bytes is clean
  pub clean : Decides (r && passing (seen t)) (Clean (seen s ++ bs))

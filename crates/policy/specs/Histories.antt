-- Whole histories: any list of writes told to any policy.
--
--   after_all        what writes make of a policy, one after the other
--   ClosedForGood    what is closed at some point is closed ever after
--   History          that a policy was told of a list of writes
use Rattle.std.specs.Prelude.{◌≡◌, ℕ, false, List, ◌++◌, fold}
use Rattle.policy.specs.Policies.{Meaning}
use Rattle.policy.specs.declared.history.Write.{Write}

-- What writes make of a policy, each told after the one before it.
abbrev pub after_all : {P : Type 0} → Meaning P → P → List Write → P
after_all m policy writes = fold (λ p w. m.after p w.region w.span.offset w.span.length) policy writes

-- An offset that is closed after some writes, whichever they are, is closed after these and any others.
abbrev pub ClosedForGood : {P : Type 0} → Meaning P → P → Type 0
ClosedForGood m policy = (earlier later : List Write) (region offset : ℕ) →
    m.opens (after_all m policy earlier) region offset ≡ false →
    m.opens (after_all m policy (earlier ++ later)) region offset ≡ false

-- A policy was told of writes, from a first state of it to a last.
pub record History {P : Type 0} (m : Meaning P) (first : P) (writes : List Write) (last : P) : Type 0 where
  -- It is what the writes make of it,
  pub is : last ≡ after_all m first writes
  -- has as many regions as it had,
  pub same : m.count last ≡ m.count first
  -- and at every point of this and any other history from there, closed stays closed.
  pub closed : ClosedForGood m first

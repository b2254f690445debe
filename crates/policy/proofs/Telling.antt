-- A policy through a list of writes.
use Rattle.std.proofs.Common.{◌≡◌, ℕ, ◌≤◌, false, List, [], ◌∷◌, length, take, take_all, refl, subst}
use Rattle.policy.specs.Histories.{after_all, ClosedForGood, History}
use Rattle.policy.specs.Policies.{Lawful, Meaning}
use Rattle.policy.specs.declared.history.Write.{Write}

module _ {P : Type 0} (m : Meaning P) (laws : Lawful m) where
  -- What is closed is closed after any writes,
  closed_after : (policy : P) (later : List Write) (region o : ℕ) → m.opens policy region o ≡ false → m.opens (after_all m policy later) region o ≡ false
  closed_after policy [] region o shut = shut
  closed_after policy (w ∷ later) region o shut =
      closed_after (m.after policy w.region w.span.offset w.span.length) later region o
      (laws.closed policy w.region w.span.offset w.span.length region o shut)

  -- and so is what some writes closed.
  pub closed_for_good : (policy : P) → ClosedForGood m policy
  closed_for_good policy [] later = closed_after policy later
  closed_for_good policy (w ∷ earlier) later = closed_for_good (m.after policy w.region w.span.offset w.span.length) earlier later

-- A history of no writes is one,
pub none_told : {P : Type 0} (m : Meaning P) (policy : P) → Lawful m → History m policy [] policy
none_told m policy laws = record { is = refl; same = refl; closed = closed_for_good m laws policy }

-- and one of the writes so far is one of all, where none is left.
pub all_told : {P : Type 0} (m : Meaning P) (first last : P) (writes : List Write) (i : ℕ) → History m first (take i writes) last → length writes ≤ i → History m first writes last
all_told m first last writes i told past = subst (λ some. History m first some last) (take_all i writes past) told

-- That the kinds are policies. The trait takes these proofs as values, so they stand here and not among the other proofs.
use Rattle.std.specs.Prelude.{◌≡◌, ℕ, zero, suc, pred, ◌+◌, ◌-◌, ◌≤◌, Bool, true, false, if◌then◌else◌, ◌&&◌, List, [], ◌∷◌, ◌==◌, ◌↔◌, IsTrue, nat_le, nat_lt, slice_index_or, slice_set, refl}
use Rattle.std.proofs.Common.{ap, ◌∙◌, subst, ⊎_elim, arith}
use Rattle.policy.specs.Kinds.{alone, append_only_close, append_only_closes, append_only_openness, flags_without, is_flagged, free_close, free_closes, free_openness, IsKind, kind_means, kind_opens, open_from, write_once_close, write_once_openness}
use Rattle.policy.specs.Policies.{all_open, permitted, Lawful, Throughout}
use Rattle.policy.specs.Spans.{covers, is_span}
use Rattle.std.proofs.Math.Bool.{and-false}
use Rattle.std.proofs.lemmas.Bool.{and_left, and_right, and_parts, cases_eq, false≢true, le-ltb}
use Rattle.std.proofs.lemmas.Bool.Decides.{Decides-and, Decides-below_and, Decides-like, nat_tests}
use Rattle.std.proofs.lemmas.List.{get_or-set_other}

-- The test of a stretch is the test of each of its offsets.
all_open_means : (opens : ℕ → Bool) (offset length : ℕ) → IsTrue (all_open opens offset length) ↔ Throughout opens offset length
all_open_means opens offset length = Decides-like (all_open opens offset length)
    (λ each o low high. let here : offset + (o - offset) ≡ o = omega arith in subst (λ x. opens x ≡ true) here (each (o - offset) (omega arith)))
    (λ each k below. each (offset + k) (omega arith) (omega arith))
    (Decides-below_and (λ k. opens (offset + k)) (λ k. opens (offset + k) ≡ true) (all_open opens offset)
    (λ _. (λ e. e, λ e. e)) refl (λ _. refl) length)

-- A policy's answer says whether there is a span, and each of its offsets is open.
pub permitted_means : (opens : ℕ → Bool) (offset length : ℕ) → IsTrue (permitted opens offset length) ↔ (IsTrue (is_span offset length) × Throughout opens offset length)
unfolding permitted
permitted_means opens offset length = Decides-and (is_span offset length) (all_open opens offset length) (λ e. e, λ e. e) (all_open_means opens offset length)

-- Where a policy says yes, the last offset asked about is open.
pub permitted_last : (opens : ℕ → Bool) (offset length : ℕ) → permitted opens offset length ≡ true → opens (offset + pred length) ≡ true
unfolding permitted
permitted_last opens offset zero e = absurd (false≢true e)
permitted_last opens offset (suc n) e =
    (and_parts (opens (offset + n)) (all_open opens offset n)
    (and_parts (is_span offset (suc n)) (all_open opens offset (suc n)) e).1).0

-- Where a test stands before each offset, it stands before the answer.
permitted_where : (test : Bool) (openness : ℕ → Bool) (offset length : ℕ) → permitted (λ o. test && openness o) offset length ≡ (test && permitted openness offset length)
unfolding permitted
permitted_where true openness offset length = refl
permitted_where false openness offset zero = refl
permitted_where false openness offset (suc n) = and-false (is_span offset (suc n))

-- A policy of one region permits what that region does, under the number 0.
pub permitted_alone : (openness : ℕ → Bool) (region offset length : ℕ) → permitted (alone openness region) offset length ≡ (region == 0 && permitted openness offset length)
permitted_alone openness region = permitted_where (region == 0) openness

-- A policy of one region is lawful where what lies past the 65,536 offsets is closed, and a write that is permitted leaves closed
-- what was.
pub one_region_laws : {Self : Type 0} (openness : Self → ℕ → Bool) (close : Self → ℕ → ℕ → Self)
    → (ends : (policy : Self) (o : ℕ) → 65536 ≤ o → openness policy o ≡ false)
    → (keeps : (policy : Self) (offset length o : ℕ) → permitted (openness policy) offset length ≡ true → openness policy o ≡ false
    → openness (close policy offset length) o ≡ false)
    → Lawful (kind_means openness close)
one_region_laws openness close ends keeps = record {
  few = λ _. omega arith;
  past = λ policy region o from. grind (arith, nat_tests);
  yes = λ policy region. permitted_means (kind_opens openness policy region);
  wide = λ policy region o from. let end = ends policy o from in grind (arith, nat_tests);
  same = λ _ _ _ _. refl;
  refused = λ policy region offset length e. grind (arith, nat_tests);
  others = λ policy region offset length other o differs. grind (arith, nat_tests, permitted_alone);
  closed = λ policy region offset length r o shut. grind (arith, nat_tests, permitted_alone, keeps);
}

-- A kind is a policy: what a write closes is closed, and all else is as it was.
pub kind_laws : {Self : Type 0} {openness : Self → ℕ → Bool} {closes : ℕ → ℕ → ℕ → Bool} {close : Self → ℕ → ℕ → Self} → IsKind openness closes close → Lawful (kind_means openness close)
kind_laws {openness} {closes} {close} kind = one_region_laws openness close kind.ends
    (λ policy offset length o yes shut. let left = kind.leaves policy offset length o yes in grind (arith, nat_tests))

-- There is nothing past the last offset.
mark_ends : (mark o : ℕ) → 65536 ≤ o → open_from mark o ≡ false
mark_ends mark o from = and_right (nat_le mark o) (nat_lt o 65536) (le-ltb o 65536 from)

-- A mark that moves up to the end of a span closes what lies below that.
mark_rises : (mark offset length o : ℕ) → open_from mark (offset + pred length) ≡ true → open_from (offset + length) o ≡ (if append_only_closes offset length o then false else open_from mark o)
mark_rises mark offset length o asked = grind (arith, nat_tests)

-- Append-only is a kind: the mark never falls.
pub append_only_facts : IsKind append_only_openness append_only_closes append_only_close
append_only_facts = record {
  ends = λ policy. mark_ends policy.mark;
  leaves = λ policy offset length o e. mark_rises policy.mark offset length o (permitted_last (open_from policy.mark) offset length e);
}

-- Free is a kind: nothing changes.
pub free_facts : IsKind free_openness free_closes free_close
free_facts = record { ends = λ _. mark_ends 0; leaves = λ _ _ _ _ _. refl }

-- A flag that is cleared is clear, whether there is one or not.
set_clears : (flags : List Bool) (i : ℕ) → slice_index_or (slice_set flags i false) i false ≡ false
set_clears [] i = refl
set_clears (_ ∷ flags) zero = refl
set_clears (_ ∷ flags) (suc i) = set_clears flags i

-- The flags of a cleared stretch are clear, the others as they were.
cleared_at : (flags : List Bool) (offset length o : ℕ) → slice_index_or (flags_without flags offset length) o false ≡ (if covers offset length o then false else slice_index_or flags o false)
cleared_at flags offset zero o = grind (arith, nat_tests)
cleared_at flags offset (suc n) o = ⊎_elim
    (λ here. let off : slice_index_or (slice_set (flags_without flags offset n) (offset + n) false) o false ≡ false = ap (λ x. slice_index_or (slice_set (flags_without flags offset n) (offset + n) false) x false) here ∙ set_clears (flags_without flags offset n) (offset + n) in grind (arith, nat_tests))
    (λ there. let same = get_or-set_other (flags_without flags offset n) (offset + n) o false false there in
    let was = cleared_at flags offset n o in grind (arith, nat_tests))
    (cases_eq o (offset + n))

-- So it is with the flags below 4,096.
flagged_falls : (flags : List Bool) (offset length o : ℕ) → is_flagged (flags_without flags offset length) o ≡ (if covers offset length o then false else is_flagged flags o)
flagged_falls flags offset length o = let at = cleared_at flags offset length o in grind (arith, nat_tests)

-- Write-once is a kind: no flag is ever set.
pub write_once_facts : IsKind write_once_openness covers write_once_close
write_once_facts = record {
  ends = λ policy o from. and_left (nat_lt o 4096) (slice_index_or policy.fresh o false) (le-ltb o 4096 (omega arith));
  leaves = λ policy offset length o _. flagged_falls policy.fresh offset length o;
}

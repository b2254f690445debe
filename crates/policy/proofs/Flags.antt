-- Flags for the offsets of a write-once region.
use Rattle.std.proofs.Common.{◌≡◌, ℕ, zero, suc, ◌+◌, ◌<◌, ◌≤◌, Bool, true, false, not, ◌&&◌, ◌||◌, List, [], length, drop, set, ltb, get_or, replicate, IsTrue, refl, sym, ap, ◌∙◌, ⊎_elim, add-one, arith}
use borrow.Rule.Slice.PartMut.{mid_of, put_mid}
use lib.Seq.{paste}
use Rattle.policy.specs.Kinds.{below, flags_without, is_flagged, write_once_close, write_once_openness}
use Rattle.policy.specs.Laws.{permitted_last}
use Rattle.policy.specs.Policies.{all_open, permitted}
use Rattle.policy.specs.Spans.{is_span}
use Rattle.policy.specs.declared.write_once.WriteOnce.{WriteOnce}
use Rattle.std.proofs.lemmas.Bool.{cases_Bool, cases_lt}
use Rattle.std.proofs.lemmas.Bool.Decides.{nat_tests}
use Rattle.std.proofs.lemmas.List.{get_or-drop, get_or-replicate, length-drop, length-replicate, length-take-le}
use Rattle.std.proofs.lemmas.List.Edits.{fill_from_more, paste_none}
use Rattle.std.proofs.lemmas.List.Folds.{list_any_more}
use Rattle.std.proofs.lemmas.Slice.{put_mid-paste}
use Rattle.std.specs.List.{list_any}

-- Of n flags that are all set, one is found at each place below n and nowhere else.
set_throughout : (n o : ℕ) → (ltb o n && get_or (replicate n true) o false) ≡ ltb o n
set_throughout n o = ⊎_elim
    (λ under. let here : get_or (replicate n true) o false ≡ true = get_or-replicate n o true false under in grind (arith, nat_tests))
    (λ past. grind (arith, nat_tests))
    (cases_lt o n)

-- So a region whose flags are all set is open below 4,096.
pub flags_set : (o : ℕ) → is_flagged (replicate 4096 true) o ≡ below 4096 o
flags_set = set_throughout 4096

-- A stretch of flags is open where no flag of it is found to be clear.
none_clear : (clear : Bool → Bool) → clear true ≡ false → clear false ≡ true → (flags : List Bool) (from k : ℕ) → from + k ≤ 4096 → length flags ≡ 4096 → not (list_any clear (mid_of from k flags)) ≡ all_open (is_flagged flags) from k
none_clear clear sets clears flags from zero room size = refl
none_clear clear sets clears flags from (suc n) room size =
    let more : list_any clear (mid_of from (suc n) flags) ≡ (list_any clear (mid_of from n flags) || clear (get_or (drop from flags) n false)) =
    ap (λ m. list_any clear (mid_of from m flags)) (sym (add-one n)) ∙ list_any_more clear (drop from flags) n false (omega (arith, length-drop from flags)) in
    let before = none_clear clear sets clears flags from n (omega arith) size in
    let there = get_or-drop from flags n false in
    ⊎_elim
    (λ set. grind (arith, nat_tests))
    (λ unset. grind (arith, nat_tests))
    (cases_Bool (get_or flags (from + n) false))

-- A span is open where it lies among the flags and none of its flags is found to be clear.
pub stretch_open : (policy : WriteOnce) (offset n from k : ℕ) (clear : Bool → Bool) (r : Bool) → r ≡ list_any clear (mid_of from k policy.fresh) → clear true ≡ false → clear false ≡ true → from ≡ offset → k ≡ n → 1 ≤ n → offset + n ≤ 4096 → length policy.fresh ≡ 4096 → not r ≡ permitted (write_once_openness policy) offset n
unfolding permitted
stretch_open policy offset n from k clear r found sets clears starts many some room size =
    let valid : is_span offset n ≡ true = grind (arith, nat_tests) in
    let same = none_clear clear sets clears policy.fresh offset n room size in
    grind (arith, nat_tests)

-- A span that is permitted lies among the flags.
pub inside : (policy : WriteOnce) (offset n : ℕ) → IsTrue (permitted (write_once_openness policy) offset n) → offset + n ≤ 4096
inside policy offset n e = let last = permitted_last (write_once_openness policy) offset n e in grind (arith, nat_tests)

-- So one that ends past them is not open.
pub past_flags : (policy : WriteOnce) (offset n : ℕ) → 4096 < offset + n → permitted (write_once_openness policy) offset n ≡ false
past_flags policy offset n past = ⊎_elim
    (λ t. let among = inside policy offset n t in absurd (omega arith))
    (λ f. f)
    (cases_Bool (permitted (write_once_openness policy) offset n))

-- Flags of a stretch that are cleared one after the other are cleared all at once.
cleared_pastes : (flags : List Bool) (offset n : ℕ) → offset + n ≤ length flags → flags_without flags offset n ≡ paste flags offset (replicate n false) n
cleared_pastes flags offset zero room = paste_none flags offset []
cleared_pastes flags offset (suc n) room =
    ap (λ l. set l (offset + n) false) (cleared_pastes flags offset n (omega arith)) ∙ simp add-one at (fill_from_more flags offset n false (omega arith))

-- To fill the part of the flags that is a span's is to clear its flags.
pub fill_clears : (policy : WriteOnce) (part : List Bool) (from k offset n : ℕ) → part ≡ replicate (length (mid_of from k policy.fresh)) false → from ≡ offset → k ≡ n → offset + n ≤ 4096 → length policy.fresh ≡ 4096 → record { fresh = put_mid from k policy.fresh part } ≡ write_once_close policy offset n
fill_clears policy part from k offset n fills starts many room size =
    let long : length (mid_of from k policy.fresh) ≡ n = length-take-le k (drop from policy.fresh) (omega (arith, length-drop from policy.fresh)) ∙ many in
    ap (λ (l : List Bool). record { fresh = l }) (
    put_mid-paste from k policy.fresh part (replicate n false) n (fills ∙ ap (λ m. replicate m false) long) (sym many) (sym (length-replicate n false))
    ∙ ap (λ i. paste policy.fresh i (replicate n false) n) starts
    ∙ sym (cleared_pastes policy.fresh offset n (omega arith))
    )

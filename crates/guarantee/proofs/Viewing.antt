-- What an accepted call is, for the laws: a record, a store, a drain, or nothing that they speak of.
use Rattle.std.proofs.Common.{◌≡◌, ℕ, Bool, true, false, [], slice_get, Option, Some, None, is_none, refl, sym, subst, ap, ◌∙◌}
use Rattle.std.proofs.lemmas.Bool.{false≢true}
use Rattle.std.specs.Option.{option_map}
use Rattle.journal.specs.Bytes.{are_bytes}
use Rattle.journal.specs.Pictures.{with_words}
use Rattle.journal.specs.Records.{Change, declared, retired, taken, written, released, accepted, unaccepted}
use Rattle.journal.specs.Records as change
use Rattle.std.proofs.lemmas.Option.{same_Some}
use Rattle.frames.specs.Kinds.{level_of}
use Rattle.frames.specs.declared.kinds.Level.{Level}
use Rattle.frames.specs.declared.kinds.FrameKind.TheVariants as kind
use Rattle.paging.specs.Questions.{access_questions}
use Rattle.paging.specs.Walks.{page_of}
use Rattle.paging.specs.declared.faults.Access.TheVariants as access
use Rattle.policy.specs.Policies.{Lawful, Meaning}
use Rattle.guard.specs.Calls.{Request, declare, set, retire, take, write, release, accept, unaccept, load_register, load_root, load, store, fetch, drain}
use Rattle.guard.specs.Guarding.{Guarded, emptied, journaled, with_picture}
use Rattle.guard.specs.Orders.{questions}
use Rattle.guard.specs.States.{State}
use Rattle.guard.specs.Steps.{change_for, effect, is_accepted, journaled_if, piece, stored}
use Rattle.guard.specs.declared.calls.Answer.{Answer}
use Rattle.guarantee.specs.Guarantee.{bytes_of_write}
use Rattle.guarantee.proofs.Accepting.{Enacts, Kept, Yes, all_yes, enacted_by}
use Rattle.guarantee.proofs.Frames.{differ}
use Rattle.guarantee.proofs.Sounds.{Sound}
use Rattle.guarantee.proofs.Stepping.{stores_plain}

-- A call copies nothing out, whatever it answers.
abbrev pub Silent : {P : Type 0} → Request → State P → Type 0
Silent q s = (answer : Answer) → piece q answer s ≡ []

-- What a call made of what the guard keeps.
pub data View {P : Type 0} (s : State P) (q : Request) (t : Guarded) : Type 0 where
  recorded : (c : Change) → change_for q ≡ Some c → Enacts s c → Silent q s → t ≡ journaled c s.guarded → View s q t
  stored_at : (r address value : ℕ) → slice_get s.guarded.picture.kinds (page_of s.guarded.picture.words r address) ≡ Some kind.Plain → Silent q s
      → t ≡ with_picture s.guarded (with_words s.guarded.picture (stored s.guarded.picture.words (Some r) address value)) → View s q t
  copied : (room : ℕ) → q ≡ drain room → t ≡ emptied s.guarded → View s q t
  unaltered : Silent q s → t ≡ s.guarded → View s q t

view_store : {P : Type 0} (s : State P) (root : Option ℕ) (address value : ℕ) → s.root ≡ root → Kept s → Yes (access_questions s.guarded.picture.words root address access.Store) → View s (store address value) (with_picture s.guarded (with_words s.guarded.picture (stored s.guarded.picture.words root address value)))
view_store s None address value is kept y = absurd (false≢true y.1.1.0)
view_store s (Some r) address value is kept y = stored_at r address value (stores_plain s.guarded.picture r s.guarded.first_log s.guarded.logs address (subst (λ o. Sound s.guarded.picture o s.guarded.first_log s.guarded.logs) is kept.sound) y) (λ answer. refl) refl

pub view : {P : Type 0} (means : Meaning P) (q : Request) (s : State P) → Lawful means → Kept s → are_bytes (bytes_of_write q) ≡ true → is_accepted means q s ≡ true → View s q (effect means q s).guarded
view means (declare frame level) s laws kept small ok = by (change_for (declare frame level)) refl
  where
    by : (o : Option Change) → change_for (declare frame level) ≡ o → View s (declare frame level) (journaled_if o s.guarded)
    by None e = unaltered (λ answer. refl) refl
    by (Some c) e = recorded c e (enacted_by means (declare frame level) c s laws kept small ok e) (λ answer. refl) refl
view means (set table index entry) s laws kept small ok = recorded _ refl (enacted_by means (set table index entry) _ s laws kept small ok refl) (λ answer. refl) refl
view means (retire frame) s laws kept small ok = recorded _ refl (enacted_by means (retire frame) _ s laws kept small ok refl) (λ answer. refl) refl
view means (take r first n) s laws kept small ok = recorded _ refl (enacted_by means (take r first n) _ s laws kept small ok refl) (λ answer. refl) refl
view means (write r offset bytes) s laws kept small ok = recorded _ refl (enacted_by means (write r offset bytes) _ s laws kept small ok refl) (λ answer. refl) refl
view means (release r) s laws kept small ok = recorded _ refl (enacted_by means (release r) _ s laws kept small ok refl) (λ answer. refl) refl
view means (accept frame) s laws kept small ok = recorded _ refl (enacted_by means (accept frame) _ s laws kept small ok refl) (λ answer. refl) refl
view means (unaccept frame) s laws kept small ok = recorded _ refl (enacted_by means (unaccept frame) _ s laws kept small ok refl) (λ answer. refl) refl
view means (load_register register value) s laws kept small ok = unaltered (λ answer. refl) refl
view means (load_root value) s laws kept small ok = unaltered (λ answer. refl) refl
view means (load address) s laws kept small ok = unaltered (λ answer. refl) refl
view means (store address value) s laws kept small ok = view_store s s.root address value refl kept (all_yes (questions means (store address value) s) ok).1
view means (fetch address) s laws kept small ok = unaltered (λ answer. refl) refl
view means (drain room) s laws kept small ok = copied room refl refl

-- The call that a record is of, but for a declaration, which says a level and not its number.
abbrev call_of : Change → Request
call_of (declared frame level) = declare frame 0
call_of (change.set table index entry) = set table index entry
call_of (retired frame) = retire frame
call_of (taken r first n) = take r first n
call_of (written r offset bytes) = write r offset bytes
call_of (released r) = release r
call_of (accepted frame) = accept frame
call_of (unaccepted frame) = unaccept frame

abbrev pub is_declared : Change → Bool
is_declared (declared frame level) = true
is_declared other = false

pub call_is : (q : Request) (c : Change) → change_for q ≡ Some c → is_declared c ≡ false → q ≡ call_of c
call_is (declare frame level) c e other = absurd (none (level_of level) e)
  where
    none : (o : Option Level) → option_map (declared frame) o ≡ Some c → ⊥
    none None is = differ is_none _ _ is refl refl
    none (Some l) is = false≢true (sym other ∙ sym (ap is_declared (same_Some _ c is)))
call_is (set table index entry) c e other = ap call_of (same_Some _ c e)
call_is (retire frame) c e other = ap call_of (same_Some _ c e)
call_is (take r first n) c e other = ap call_of (same_Some _ c e)
call_is (write r offset bytes) c e other = ap call_of (same_Some _ c e)
call_is (release r) c e other = ap call_of (same_Some _ c e)
call_is (accept frame) c e other = ap call_of (same_Some _ c e)
call_is (unaccept frame) c e other = ap call_of (same_Some _ c e)
call_is (load_register register value) c e other = absurd (differ is_none _ _ e refl refl)
call_is (load_root value) c e other = absurd (differ is_none _ _ e refl refl)
call_is (load address) c e other = absurd (differ is_none _ _ e refl refl)
call_is (store address value) c e other = absurd (differ is_none _ _ e refl refl)
call_is (fetch address) c e other = absurd (differ is_none _ _ e refl refl)
call_is (drain room) c e other = absurd (differ is_none _ _ e refl refl)

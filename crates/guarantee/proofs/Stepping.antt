-- Each call leaves kept what was kept.
use Rattle.std.proofs.Common.{◌≡◌, ℕ, ◌+◌, ◌*◌, ◌≤◌, Bool, true, inl, inr, ⊎_elim, List, length, slice_get, Option, Some, None, refl, sym, subst, ap, ◌∙◌, arith}
use Rattle.std.proofs.lemmas.Bool.{false≢true}
use Rattle.std.proofs.lemmas.List.{length-set}
use Rattle.std.proofs.lemmas.Option.{same_Some}
use Rattle.frames.specs.Figures.{figure_questions}
use Rattle.frames.specs.Kinds.{is_code, is_table}
use Rattle.frames.specs.Questions.{first_no}
use Rattle.frames.specs.declared.kinds.FrameKind.{FrameKind}
use Rattle.frames.specs.declared.kinds.FrameKind.TheVariants as kind
use Rattle.frames.specs.declared.kinds.Level.TheVariants.{One, Two, Three, Four}
use Rattle.journal.specs.Bytes.{are_bytes}
use Rattle.journal.specs.Pictures.{Picture, apply, with_words}
use Rattle.journal.specs.Records.{Change, encode}
use Rattle.paging.specs.Entries.{frame_of}
use Rattle.paging.specs.Questions.{access_questions, place_reached}
use Rattle.paging.specs.Walks.{page_of}
use Rattle.paging.specs.declared.faults.Access.TheVariants as access
use Rattle.policy.specs.Policies.{Lawful, Meaning}
use Rattle.guard.proofs.Laying.{length_put_words, put_out}
use Rattle.guard.specs.Calls.{Request, declare, set, retire, take, write, release, accept, unaccept, load_register, load_root, load, store, fetch, drain}
use Rattle.guard.specs.Guarding.{Guarded, emptied, journaled, put_words, with_picture}
use Rattle.guard.specs.Orders.{kind_of, questions}
use Rattle.guard.specs.Scans.{is_table_of}
use Rattle.guard.specs.States.{State}
use Rattle.guard.specs.Steps.{change_for, effect, is_accepted, journaled_if, stored, with_guarded}
use Rattle.guarantee.specs.Guarantee.{bytes_of_write}
use Rattle.guarantee.proofs.Accepting.{Enacts, Kept, KeptBy, Yes, all_yes, enacted_by}
use Rattle.guarantee.proofs.Frames.{is_log, differ}
use Rattle.guarantee.proofs.Places.{Outside, SameFrame, inside_or_outside, set_out}
use Rattle.guarantee.proofs.Sounds.{Sound, rewritten}
use Rattle.guarantee.proofs.Walking.{executable_translates, fetch_code, store_plain, writable_translates}

-- Words that are put behind those that are held lie in the log frames, so all others are as they were.
pub noting_out : (m : Picture) (root : Option ℕ) (first_log logs held : ℕ) (items : List ℕ) → Sound m root first_log logs → held + length items ≤ 512 * logs → (f : ℕ) → (slice_get m.kinds f ≡ Some kind.Log → ⊥) → SameFrame (put_words m.words (512 * first_log + held) items) m.words f
noting_out m root first_log logs held items sound room f other index low = ⊎_elim
    (λ inside. absurd (other (sound.log f inside.0 inside.1)))
    (λ outside. put_out m.words (512 * first_log + held) items (512 * f + index) (places outside))
    (inside_or_outside first_log logs f)
  where
    places : Outside first_log logs f → Outside (512 * first_log + held) (length items) (512 * f + index)
    places (inl under) = inl (omega (arith, under, low))
    places (inr over) = inr (omega (arith, over, room))

-- A record that is carried out and noted.
pub journaled_kept : {P : Type 0} (s : State P) (c : Change) → Kept s → Enacts s c → KeptBy s.sound (journaled c s.guarded) s.root
journaled_kept s c kept enacts = record {
  good = kept.good;
  figures = subst (λ n. first_no (figure_questions n s.guarded.first_log s.guarded.logs) ≡ None) (sym enacts.turned.kinds) kept.figures;
  few = subst (λ n. n ≤ 256) (sym enacts.turned.kinds) kept.few;
  held = enacts.room;
  sound = rewritten m s.root s.guarded.first_log s.guarded.logs _ enacts.sound (length_put_words m.words (512 * s.guarded.first_log + s.guarded.held) (encode c))
      (λ f level is. noting_out m s.root s.guarded.first_log s.guarded.logs s.guarded.held (encode c) enacts.sound enacts.room f (λ e. differ is_log _ _ (sym e ∙ is) refl refl))
      (λ f is. noting_out m s.root s.guarded.first_log s.guarded.logs s.guarded.held (encode c) enacts.sound enacts.room f (λ e. differ is_log _ _ (sym e ∙ is) refl refl));
}
  where
    m : Picture
    m = apply c s.guarded.picture

-- The frame that an accepted store reaches is plain, and the one that an accepted fetch reaches is code. So a store leaves all others their words.
pub stores_plain : (p : Picture) (r first_log logs address : ℕ) → Sound p (Some r) first_log logs → Yes (access_questions p.words (Some r) address access.Store) → slice_get p.kinds (page_of p.words r address) ≡ Some kind.Plain
stores_plain p r first_log logs address sound y = store_plain p r first_log logs address (page_of p.words r address) sound (writable_translates p.words r address y.1.1.1.0 y.1.1.1.1.0)

pub fetches_code : (p : Picture) (r first_log logs address : ℕ) → Sound p (Some r) first_log logs → Yes (access_questions p.words (Some r) address access.Fetch) → slice_get p.kinds (page_of p.words r address) ≡ Some kind.Code
fetches_code p r first_log logs address sound y = fetch_code p r first_log logs address (page_of p.words r address) sound (executable_translates p.words r address y.1.1.1.0 y.1.1.1.1.0)

pub store_out : (words : List ℕ) (r address value f : ℕ) → (f ≡ page_of words r address → ⊥) → SameFrame (stored words (Some r) address value) words f
store_out words r address value f other index low = set_out words (place_reached words r address) value (512 * f + index) (λ same. other (let e = same in omega (arith, e, low)))

store_kept : (made : Bool) (g : Guarded) (root : Option ℕ) (address value : ℕ) → KeptBy made g root → Yes (access_questions g.picture.words root address access.Store) → KeptBy made (with_picture g (with_words g.picture (stored g.picture.words root address value))) root
store_kept made g None address value kept y = absurd (false≢true y.1.1.0)
store_kept made g (Some r) address value kept y = record {
  good = kept.good;
  figures = kept.figures;
  few = kept.few;
  held = kept.held;
  sound = rewritten g.picture (Some r) g.first_log g.logs _ kept.sound (length-set g.picture.words (place_reached g.picture.words r address) value)
      (λ f level is. store_out g.picture.words r address value f (λ e. differ is_table _ _ (sym is ∙ ap (slice_get g.picture.kinds) e ∙ plain) refl refl))
      (λ f is. store_out g.picture.words r address value f (λ e. differ is_code _ _ (sym is ∙ ap (slice_get g.picture.kinds) e ∙ plain) refl refl));
}
  where
    plain : slice_get g.picture.kinds (page_of g.picture.words r address) ≡ Some kind.Plain
    plain = stores_plain g.picture r g.first_log g.logs address kept.sound y

-- A frame that is a table of level 4.
top_is : (o : Option FrameKind) → is_table_of Four o ≡ true → o ≡ Some (kind.Table Four)
top_is None e = absurd (false≢true e)
top_is (Some kind.Plain) e = absurd (false≢true e)
top_is (Some (kind.Table One)) e = absurd (false≢true e)
top_is (Some (kind.Table Two)) e = absurd (false≢true e)
top_is (Some (kind.Table Three)) e = absurd (false≢true e)
top_is (Some (kind.Table Four)) e = refl
top_is (Some kind.Region) e = absurd (false≢true e)
top_is (Some kind.Code) e = absurd (false≢true e)
top_is (Some kind.Log) e = absurd (false≢true e)
top_is (Some kind.Reserve) e = absurd (false≢true e)

root_kept : (made : Bool) (g : Guarded) (root : Option ℕ) (frame : ℕ) → KeptBy made g root → is_table_of Four (kind_of g frame) ≡ true → KeptBy made g (Some frame)
root_kept made g root frame kept is = record {
  good = kept.good;
  figures = kept.figures;
  few = kept.few;
  held = kept.held;
  sound = record {
    whole = kept.sound.whole;
    entries = kept.sound.entries;
    top = λ r e. ap (slice_get g.picture.kinds) (sym (same_Some frame r e)) ∙ top_is (kind_of g frame) is;
    log = kept.sound.log;
    only = kept.sound.only;
    regions = kept.sound.regions;
    code = kept.sound.code;
  };
}

drained_kept : (made : Bool) (g : Guarded) (root : Option ℕ) → KeptBy made g root → KeptBy made (emptied g) root
drained_kept made g root kept = record { good = kept.good; figures = kept.figures; few = kept.few; held = omega arith; sound = kept.sound }

-- Every accepted call.
pub effect_kept : {P : Type 0} (means : Meaning P) (q : Request) (s : State P) → Lawful means → Kept s → are_bytes (bytes_of_write q) ≡ true → is_accepted means q s ≡ true → Kept (effect means q s)
effect_kept means (declare frame level) s laws kept small ok = by (change_for (declare frame level)) refl
  where
    by : (o : Option Change) → change_for (declare frame level) ≡ o → Kept (with_guarded s (journaled_if o s.guarded))
    by None e = kept
    by (Some c) e = journaled_kept s c kept (enacted_by means (declare frame level) c s laws kept small ok e)
effect_kept means (set table index entry) s laws kept small ok = journaled_kept s _ kept (enacted_by means (set table index entry) _ s laws kept small ok refl)
effect_kept means (retire frame) s laws kept small ok = journaled_kept s _ kept (enacted_by means (retire frame) _ s laws kept small ok refl)
effect_kept means (take r first n) s laws kept small ok = journaled_kept s _ kept (enacted_by means (take r first n) _ s laws kept small ok refl)
effect_kept means (write r offset bytes) s laws kept small ok = journaled_kept s _ kept (enacted_by means (write r offset bytes) _ s laws kept small ok refl)
effect_kept means (release r) s laws kept small ok = journaled_kept s _ kept (enacted_by means (release r) _ s laws kept small ok refl)
effect_kept means (accept frame) s laws kept small ok = journaled_kept s _ kept (enacted_by means (accept frame) _ s laws kept small ok refl)
effect_kept means (unaccept frame) s laws kept small ok = journaled_kept s _ kept (enacted_by means (unaccept frame) _ s laws kept small ok refl)
effect_kept means (load_register register value) s laws kept small ok = kept
effect_kept means (load_root value) s laws kept small ok = root_kept s.sound s.guarded s.root (frame_of value) kept (all_yes (questions means (load_root value) s) ok).1.1.0
effect_kept means (load address) s laws kept small ok = kept
effect_kept means (store address value) s laws kept small ok = store_kept s.sound s.guarded s.root address value kept (all_yes (questions means (store address value) s) ok).1
effect_kept means (fetch address) s laws kept small ok = kept
effect_kept means (drain room) s laws kept small ok = drained_kept s.sound s.guarded s.root kept

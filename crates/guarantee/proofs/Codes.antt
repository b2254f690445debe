-- Code frames hold the words that they held when they were accepted.
use Rattle.std.proofs.Common.{◌≡◌, ℕ, true, ◌⊎◌, inl, inr, ⊎_elim, List, [], ◌∷◌, ◌++◌, slice_get, Some, refl, sym, subst, ap, ◌∙◌}
use Rattle.frames.specs.Kinds.{is_code}
use Rattle.frames.specs.declared.kinds.FrameKind.TheVariants as kind
use Rattle.journal.specs.Pictures.{Picture, apply}
use Rattle.journal.specs.Records.{accepted, encode}
use Rattle.paging.specs.Walks.{page_of}
use Rattle.policy.specs.Policies.{Lawful, Meaning}
use Rattle.guard.specs.Calls.{Request, accept}
use Rattle.guard.specs.Guarding.{Guarded}
use Rattle.guard.specs.Orders.{kind_of}
use Rattle.guard.specs.Scans.{frame_words}
use Rattle.guard.specs.States.{State}
use Rattle.guard.specs.Steps.{accepts}
use Rattle.guarantee.specs.Guarantee.{Event, Happens, Run, Unchanged}
use Rattle.guarantee.proofs.Accepting.{Kept}
use Rattle.guarantee.proofs.Frames.{differ}
use Rattle.guarantee.proofs.Happenings.{by_answer, event_kept, not_nil, same_after, same_head, same_tail}
use Rattle.guarantee.proofs.Places.{frame_same, inside_or_outside}
use Rattle.guarantee.proofs.Stepping.{noting_out, store_out}
use Rattle.guarantee.proofs.Viewing.{View, call_is, copied, recorded, stored_at, unaltered, view}

-- A frame was code before, and has the words that it had.
abbrev pub Was : Guarded → Guarded → ℕ → Type 0
Was g h f = (kind_of g f ≡ Some kind.Code) × (frame_words h.picture.words f ≡ frame_words g.picture.words f)

-- A frame that is code after an accepted call was so before, or the call accepted it.
of_view : {P : Type 0} (s : State P) (q : Request) (t : Guarded) (f : ℕ) → View s q t → kind_of t f ≡ Some kind.Code → Was s.guarded t f ⊎ (q ≡ accept f)
of_view s q t f (unaltered silent is) code = inl (ap (λ g. kind_of g f) (sym is) ∙ code, ap (λ g. frame_words g.picture.words f) is)
of_view s q t f (copied room drains is) code = inl (ap (λ g. kind_of g f) (sym is) ∙ code, ap (λ g. frame_words g.picture.words f) is)
of_view s q t f (stored_at r address value plain silent is) code = inl (was, ap (λ g. frame_words g.picture.words f) is ∙ frame_same _ _ f (store_out s.guarded.picture.words r address value f other))
  where
    was : kind_of s.guarded f ≡ Some kind.Code
    was = ap (λ g. kind_of g f) (sym is) ∙ code

    other : f ≡ page_of s.guarded.picture.words r address → ⊥
    other same = differ is_code _ _ (sym was ∙ ap (slice_get s.guarded.picture.kinds) same ∙ plain) refl refl
of_view s q t f (recorded c asks enacts silent is) code = ⊎_elim
    (λ inside. inr (accept_of (enacts.codes (sym (enacts.turned.turns f inside.0 inside.1) ∙ after) f inside.0 inside.1)))
    (λ outside. inl (
      sym (enacts.turned.others f outside) ∙ after,
      ap (λ g. frame_words g.picture.words f) is
          ∙ frame_same _ _ f (noting_out m s.root s.guarded.first_log s.guarded.logs s.guarded.held (encode c) enacts.sound enacts.room f (λ log. differ is_code _ _ (sym after ∙ log) refl refl))
          ∙ frame_same _ _ f (enacts.turned.same f outside),
    ))
    (inside_or_outside enacts.from enacts.n f)
  where
    accept_of : c ≡ accepted f → q ≡ accept f
    accept_of is_it = call_is q (accepted f) (asks ∙ ap Some is_it) refl

    m : Picture
    m = apply c s.guarded.picture

    after : slice_get m.kinds f ≡ Some kind.Code
    after = ap (λ g. kind_of g f) (sym is) ∙ code

-- An event that leaves a frame code found it so, or was an accept of it that was accepted.
of_event : {P : Type 0} (means : Meaning P) (e : Event) (s u : State P) (f : ℕ) → Lawful means → Kept s → Happens means e s u → kind_of u.guarded f ≡ Some kind.Code
    → Was s.guarded u.guarded f ⊎ ((e.call ≡ accept f) × (accepts e.answer ≡ true))
of_event means e s u f laws kept happens code = by_answer means e s u happens
    (λ accepted ok is. ⊎_elim (λ was. inl was) (λ call. inr (call, accepted))
    (of_view s e.call u.guarded f (subst (View s e.call) (ap (λ x. x.guarded) (sym is)) (view means e.call s laws kept happens.bytes ok)) code))
    (λ refused is. inl (ap (λ x. kind_of x.guarded f) (sym is) ∙ code, ap (λ x. frame_words x.guarded.picture.words f) is))

-- At every moment of a run a frame is code and holds the words that it holds at the end.
abbrev pub Holds : {P : Type 0} → Meaning P → List Event → State P → State P → ℕ → Type 0
Holds {P} means events s t f = (some others : List Event) (u : State P) → some ++ others ≡ events → Run means some s u → Run means others u t
    → (kind_of u.guarded f ≡ Some kind.Code) × (frame_words u.guarded.picture.words f ≡ frame_words t.guarded.picture.words f)

-- No event was there,
holds_at_once : {P : Type 0} (means : Meaning P) (s t : State P) (f : ℕ) → t ≡ s → kind_of t.guarded f ≡ Some kind.Code → Holds means [] s t f
holds_at_once means s t f same code [] others u split first second =
    (ap (λ x. kind_of x.guarded f) (first ∙ sym same) ∙ code, ap (λ x. frame_words x.guarded.picture.words f) (first ∙ sym same))
holds_at_once means s t f same code (e ∷ some) others u split first second = not_nil e (some ++ others) split

-- or one more was, which found the frame so.
holds_before : {P : Type 0} (means : Meaning P) (e : Event) (events : List Event) (s u t : State P) (f : ℕ) → Happens means e s u → Run means events u t → Was s.guarded u.guarded f → Holds means events u t f → Holds means (e ∷ events) s t f
holds_before means e events s u t f happens rest was holds [] others v split first second = (
  ap (λ x. kind_of x.guarded f) first ∙ was.0,
  ap (λ x. frame_words x.guarded.picture.words f) first ∙ sym was.1 ∙ (holds [] events u refl refl rest).1,
)
holds_before means e events s u t f happens rest was holds (d ∷ some) others v split first second =
    holds some others v (same_tail d e (some ++ others) events split)
    (subst (λ x. Run means some x v) (same_after means e s first.0 u (subst (λ x. Happens means x s first.0) (same_head d e (some ++ others) events split) first.1.0) happens) first.1.1) second

-- So a frame that is code at the end was so throughout, or an accept in the run made it code, and it was so from there on.
pub code_run : {P : Type 0} (means : Meaning P) (events : List Event) (s t : State P) (f : ℕ) → Lawful means → Kept s → Run means events s t → kind_of t.guarded f ≡ Some kind.Code → Holds means events s t f ⊎ Unchanged means events s t f
code_run means [] s t f laws kept run code = inl (holds_at_once means s t f run code)
code_run {P} means (e ∷ events) s t f laws kept run code = ⊎_elim
    (λ holds. ⊎_elim
    (λ was. inl (holds_before means e events s u t f happens rest was holds))
    (λ made. inr (record {
      before = [];
      event = e;
      since = events;
      after = u;
      order = refl;
      run = (u, (happens, refl));
      rest = rest;
      call = made.0;
      accepted = made.1;
      code = λ some others v split first second. (holds some others v split first second).0;
      words = λ some others v split first second. (holds some others v split first second).1;
    }))
    (of_event means e s u f laws kept happens (holds [] events u refl refl rest).0))
    (λ since. inr (record {
      before = e ∷ since.before;
      event = since.event;
      since = since.since;
      after = since.after;
      order = ap (λ es. e ∷ es) since.order;
      run = (u, (happens, since.run));
      rest = since.rest;
      call = since.call;
      accepted = since.accepted;
      code = since.code;
      words = since.words;
    }))
    (code_run means events u t f laws (event_kept means e s u laws kept happens) rest code)
  where
    u : State P
    u = run.0

    happens : Happens means e s u
    happens = run.1.0

    rest : Run means events u t
    rest = run.1.1

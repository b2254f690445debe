-- Events, one after the other.
use Rattle.std.proofs.Common.{◌≡◌, Bool, true, false, cond, List, [], ◌∷◌, ◌++◌, append-nil, is_none, refl, sym, subst, ap, ◌∙◌}
use Rattle.std.proofs.lemmas.Bool.{false≢true}
use Rattle.std.proofs.lemmas.Grind.{flat_map-append}
use Rattle.policy.specs.Policies.{Lawful, Meaning}
use Rattle.guard.specs.States.{State}
use Rattle.guard.specs.Steps.{accepts, effect, is_accepted}
use Rattle.guarantee.specs.Guarantee.{Event, Happens, Run, pieces}
use Rattle.guarantee.proofs.Accepting.{Kept}
use Rattle.guarantee.proofs.Stepping.{effect_kept}

-- An event is an accepted call, which had its effect, or a refused one, which changed nothing.
pub by_answer : {P A : Type 0} (means : Meaning P) (e : Event) (s u : State P) → Happens means e s u
    → (accepts e.answer ≡ true → is_accepted means e.call s ≡ true → u ≡ effect means e.call s → A) → (accepts e.answer ≡ false → u ≡ s → A) → A
by_answer {P} {A} means e s u happens f g = choose (accepts e.answer) refl
  where
    choose : (b : Bool) → accepts e.answer ≡ b → A
    choose true is = f is (sym (ap is_none happens.step.number) ∙ is) (happens.step.does ∙ ap (λ b. cond b (effect means e.call s) s) is)
    choose false is = g is (happens.step.does ∙ ap (λ b. cond b (effect means e.call s) s) is)

pub event_kept : {P : Type 0} (means : Meaning P) (e : Event) (s u : State P) → Lawful means → Kept s → Happens means e s u → Kept u
event_kept means e s u laws kept happens = by_answer means e s u happens
    (λ yes_ ok is. subst Kept (sym is) (effect_kept means e.call s laws kept happens.bytes ok))
    (λ no_ is. subst Kept (sym is) kept)

pub run_kept : {P : Type 0} (means : Meaning P) (events : List Event) (s t : State P) → Lawful means → Kept s → Run means events s t → Kept t
run_kept means [] s t laws kept run = subst Kept (sym run) kept
run_kept means (e ∷ es) s t laws kept run = run_kept means es run.0 t laws (event_kept means e s run.0 laws kept run.1.0) run.1.1

-- One event makes one machine.
pub same_after : {P : Type 0} (means : Meaning P) (e : Event) (s u v : State P) → Happens means e s u → Happens means e s v → u ≡ v
same_after means e s u v first second = first.step.does ∙ sym second.step.does

-- The parts of a list of events.
head_or : Event → List Event → Event
head_or d [] = d
head_or d (e ∷ es) = e

tail_of : List Event → List Event
tail_of [] = []
tail_of (e ∷ es) = es

pub same_head : (d e : Event) (ds es : List Event) → d ∷ ds ≡ e ∷ es → d ≡ e
unfolding head_or
same_head d e ds es is = ap (head_or d) is

pub same_tail : (d e : Event) (ds es : List Event) → d ∷ ds ≡ e ∷ es → ds ≡ es
unfolding tail_of
same_tail d e ds es is = ap tail_of is

abbrev is_nil : List Event → Bool
is_nil [] = true
is_nil (e ∷ es) = false

pub not_nil : {A : Type 0} (e : Event) (es : List Event) → e ∷ es ≡ [] → A
not_nil e es is = absurd (false≢true (ap is_nil is))

-- Runs joined are a run, and a run of joined events is two.
pub run_on : {P : Type 0} (means : Meaning P) (front back : List Event) (s u t : State P) → Run means front s u → Run means back u t → Run means (front ++ back) s t
run_on means [] back s u t first second = subst (λ x. Run means back x t) first second
run_on means (e ∷ front) back s u t first second = (first.0, (first.1.0, run_on means front back first.0 u t first.1.1 second))

-- The drained pieces of one event more.
pub pieces_on : (events : List Event) (e : Event) → pieces (events ++ e ∷ []) ≡ pieces events ++ e.copied
pieces_on events e = flat_map-append (λ d. d.copied) events (e ∷ []) ∙ ap (λ l. pieces events ++ l) (append-nil e.copied)

-- The guarantee holds of a new machine.
use Rattle.std.proofs.Common.{◌≡◌, ℕ, zero, suc, ◌+◌, ◌*◌, ◌<◌, ◌≤◌, Bool, true, false, cond, ◌⊎◌, inl, inr, ⊎_elim, List, [], length, replicate, slice_get, Option, Some, None, is_none, refl, sym, subst, ap, ◌∙◌, arith}
use Rattle.std.specs.Prelude.{IsTrue}
use Rattle.std.proofs.lemmas.Bool.{false≢true}
use Rattle.std.proofs.lemmas.Bool.Decides.{nat_tests}
use Rattle.std.proofs.lemmas.List.{length-replicate}
use Rattle.std.proofs.lemmas.Option.{same_Some, slice_get_within}
use Rattle.memory.specs.Memories as memory
use Rattle.frames.specs.Figures.{figure_questions}
use Rattle.frames.specs.Kinds.{is_code, is_table, keeps_words}
use Rattle.frames.specs.Questions.{first_no}
use Rattle.frames.specs.declared.figures.LogFigures.{LogFigures}
use Rattle.frames.specs.declared.kinds.FrameKind.{FrameKind}
use Rattle.frames.specs.declared.kinds.FrameKind.TheVariants as kind
use Rattle.journal.proofs.Fillings.{length_filled}
use Rattle.journal.proofs.Staying.{none_live}
use Rattle.journal.specs.Pictures.{filled, new_picture, with_words}
use Rattle.journal.specs.Playing.{start}
use Rattle.policy.specs.Policies.{Lawful, Meaning}
use Rattle.guard.specs.Guarding.{held_words}
use Rattle.guard.specs.States.{State, good, new_guarded, new_state}
use Rattle.guard.specs.Calls.{fetch, store}
use Rattle.guard.specs.Orders.{questions}
use Rattle.paging.specs.Questions.{access_questions}
use Rattle.paging.specs.declared.faults.Access.TheVariants as access
use Rattle.guarantee.proofs.Stepping.{fetches_code, stores_plain}
use Rattle.guarantee.specs.Guarantee.{Event, Guaranteed, Laws, Run}
use Rattle.guarantee.proofs.Accepting.{Agree, Kept, KeptBy, Yes, all_yes}
use Rattle.guarantee.proofs.Closings.{closed_bytes}
use Rattle.guarantee.proofs.Codes.{code_run}
use Rattle.guarantee.proofs.Frames.{differ, is_log}
use Rattle.guarantee.proofs.Happenings.{run_kept}
use Rattle.guarantee.proofs.Places.{filled_in, filled_out, inside_or_outside}
use Rattle.guarantee.proofs.Replays.{Told, all_follow_none, figures_by, replay_run}
use Rattle.guarantee.proofs.Sounds.{Sound}
use Rattle.guarantee.proofs.Walking.{fetch_code, store_plain}

-- An item of a list of one item alone.
get_alike : {X : Type 0} (n k : ℕ) (x v : X) → slice_get (replicate n x) k ≡ Some v → v ≡ x
get_alike zero k x v e = absurd (differ is_none _ _ e refl refl)
get_alike (suc n) zero x v e = sym (same_Some x v e)
get_alike (suc n) (suc k) x v e = get_alike n k x v e

-- A frame of a new machine is a log frame, or plain.
abbrev new_kinds : ℕ → ℕ → ℕ → List FrameKind
new_kinds frames first count = filled (replicate frames kind.Plain) first count kind.Log

frame_is : (frames first count f : ℕ) (k : FrameKind) → slice_get (new_kinds frames first count) f ≡ Some k → ((k ≡ kind.Log) × ((first ≤ f) × (f < first + count))) ⊎ (k ≡ kind.Plain)
frame_is frames first count f k e = ⊎_elim
    (λ inside. inl (sym (same_Some kind.Log k (sym (filled_in (replicate frames kind.Plain) first count kind.Log f inside.0 inside.1 there) ∙ e)), inside))
    (λ outside. inr (get_alike frames f kind.Plain k (sym (filled_out (replicate frames kind.Plain) first count kind.Log f outside) ∙ e)))
    (inside_or_outside first count f)
  where
    there : f < length (replicate frames kind.Plain)
    there = let within = slice_get_within (new_kinds frames first count) f k e in omega (arith, within, length_filled (replicate frames kind.Plain) first count kind.Log)

-- So it is of no kind that a test finds which finds neither.
neither : (frames first count f : ℕ) (k : FrameKind) (test : FrameKind → Bool) → slice_get (new_kinds frames first count) f ≡ Some k → test k ≡ true → test kind.Log ≡ false → test kind.Plain ≡ false → ⊥
neither frames first count f k test e holds no_log no_plain = ⊎_elim (λ log. differ test k kind.Log log.0 holds no_log) (λ plain. differ test k kind.Plain plain holds no_plain) (frame_is frames first count f k e)

-- The frames of a new machine, as many as there were.
frame_count : (frames first count : ℕ) → length (new_kinds frames first count) ≡ frames
frame_count frames first count = length_filled (replicate frames kind.Plain) first count kind.Log ∙ length-replicate frames kind.Plain

module _ {M : Type 0} (m : memory.Meaning M) (x : M) (first count : ℕ) (whole : length (m.words x) ≡ 512 * m.size x) (fine : good (m.size x) first count ≡ true) where
  asked : Yes (figure_questions (m.size x) first count)
  asked = all_yes (figure_questions (m.size x) first count) fine

  none_no : first_no (figure_questions (m.size x) first count) ≡ None
  none_no = is_none_is (first_no (figure_questions (m.size x) first count)) fine
    where
      is_none_is : (o : Option ℕ) → is_none o ≡ true → o ≡ None
      is_none_is None e = refl
      is_none_is (Some n) e = absurd (false≢true e)

  room : first + count ≤ m.size x
  room = let is = asked.1.1.0 in grind (arith, nat_tests, is)

  new_sound : Sound (with_words (new_picture (m.size x) first count) (m.words x)) None first count
  new_sound = record {
    whole = whole ∙ ap (λ n. 512 * n) (sym (frame_count (m.size x) first count));
    entries = λ table index level is. absurd (neither (m.size x) first count table _ (λ k. is_table (Some k)) is refl refl refl);
    top = λ r e. absurd (differ is_none _ _ e refl refl);
    log = λ f low high. filled_in (replicate (m.size x) kind.Plain) first count kind.Log f low high (let long = length-replicate (m.size x) kind.Plain in let fits = room in omega (arith, high, long, fits));
    only = λ f e. ⊎_elim (λ log. log.1) (λ plain. absurd (differ (λ k. is_log (Some k)) _ _ plain refl refl)) (frame_is (m.size x) first count f kind.Log e);
    regions = record {
      lived = λ r start size e. absurd (none_live 16 r start size e);
      apart = λ r start size q from long other e. absurd (none_live 16 r start size e);
    };
    code = λ f e. absurd (neither (m.size x) first count f _ (λ k. is_code (Some k)) e refl refl refl);
  }

  new_kept : KeptBy true (new_guarded m x first count) None
  new_kept = record {
    good = refl;
    figures = subst (λ n. first_no (figure_questions n first count) ≡ None) (sym (frame_count (m.size x) first count)) none_no;
    few = subst (λ n. n ≤ 256) (sym (frame_count (m.size x) first count)) (let is = asked.0 in grind (arith, nat_tests, is));
    held = omega arith;
    sound = new_sound;
  }

-- Nothing is told of a new machine yet.
new_told : {M P : Type 0} (m : memory.Meaning M) (x : M) (first count : ℕ) (s : State P) → length (m.words x) ≡ 512 * m.size x → s.guarded ≡ new_guarded m x first count → Told (record { frames = m.size x; first = first; count = count }) [] s
new_told {P = P} m x first count s whole is = record {
  changes = [];
  ws = zeros;
  fit = refl;
  journal = ap held_words is;
  follow = all_follow_none (start f);
  picture = ap (λ g. with_words g.picture zeros) (sym is);
  long = length-replicate (512 * (m.size x)) 0 ∙ sym whole ∙ ap (λ g. length g.picture.words) (sym is);
  agree = subst (λ g. Agree zeros g.picture) (sym is) (λ frame replayed. absurd (no_frame frame (slice_get (new_kinds (m.size x) first count) frame) refl replayed));
  figures = ap (λ g. figures_by g) is ∙ ap (λ n. record { frames = n; first = first; count = count }) (frame_count (m.size x) first count);
}
  where
    f : LogFigures
    f = record { frames = m.size x; first = first; count = count }

    zeros : List ℕ
    zeros = replicate (512 * (m.size x)) 0

    no_frame : (frame : ℕ) (o : Option FrameKind) → slice_get (new_kinds (m.size x) first count) frame ≡ o → keeps_words o ≡ true → ⊥
    no_frame frame None e replayed = false≢true replayed
    no_frame frame (Some k) e replayed = neither (m.size x) first count frame k (λ x. keeps_words (Some x)) e replayed refl refl

-- What holds at the end of a run.
laws_of : {P : Type 0} (means : Meaning P) (f : LogFigures) (events : List Event) (s t : State P) → Lawful means → Kept s → s.root ≡ None → ((frame : ℕ) → slice_get s.guarded.picture.kinds frame ≡ Some kind.Code → ⊥) → Told f [] s → Run means events s t → Laws means events s t
laws_of means f events s t laws kept no_root no_code told run = record {
  protection = record {
    stores = λ root address frame is walk. store_plain t.guarded.picture root t.guarded.first_log t.guarded.logs address frame (rooted root is) walk;
    fetches = λ root address frame is walk. fetch_code t.guarded.picture root t.guarded.first_log t.guarded.logs address frame (rooted root is) walk;
    stored = λ root address value is ok. stores_plain t.guarded.picture root t.guarded.first_log t.guarded.logs address (rooted root is)
        (subst (λ o. Yes (access_questions t.guarded.picture.words o address access.Store)) is (all_yes (questions means (store address value) t) ok).1);
    fetched = λ root address is ok. fetches_code t.guarded.picture root t.guarded.first_log t.guarded.logs address (rooted root is)
        (subst (λ o. Yes (access_questions t.guarded.picture.words o address access.Fetch)) is (all_yes (questions means (fetch address) t) ok).1);
  };
  code = λ frame is. ⊎_elim (λ holds. absurd (no_code frame (holds [] events s refl refl run).0)) (λ since. since) (code_run means events s t frame laws kept run is);
  scans = λ frame is. end.sound.code frame is;
  replay = replay_run means f events s t laws kept run told;
  closed = closed_bytes means events s t laws kept;
}
  where
    end : Kept t
    end = run_kept means events s t laws kept run

    rooted : (root : ℕ) → t.root ≡ Some root → Sound t.guarded.picture (Some root) t.guarded.first_log t.guarded.logs
    rooted root is = subst (λ o. Sound t.guarded.picture o t.guarded.first_log t.guarded.logs) is end.sound

-- So they hold of every run of a new machine that was made on good figures.
pub guaranteed : {M P : Type 0} (means : Meaning P) (s : State P) (m : memory.Meaning M) (x : M) (first count : ℕ) (policy : P) → s ≡ new_state m x first count policy → IsTrue (good (m.size x) first count) → length (m.words x) ≡ 512 * m.size x → Lawful means → Guaranteed means s
unfolding Guaranteed
guaranteed means s m x first count policy made fine whole laws events t run =
    laws_of means (record { frames = m.size x; first = first; count = count }) events s t laws
    (subst Kept (sym made) (subst (λ b. KeptBy b (cond b (new_guarded m x first count) (new_guarded m x 0 0)) None) (sym fine) (new_kept m x first count whole fine)))
    (ap (λ u. u.root) made)
    (λ frame e. neither (m.size x) first count frame _ (λ k. is_code (Some k)) (ap (λ g. slice_get g.picture.kinds frame) (sym guards) ∙ e) refl refl refl)
    (new_told m x first count s whole guards)
    run
  where
    guards : s.guarded ≡ new_guarded m x first count
    guards = ap (λ u. u.guarded) made ∙ ap (λ b. cond b (new_guarded m x first count) (new_guarded m x 0 0)) fine

-- Playing the journal of a run gives its frames.
use Rattle.std.specs.Prelude.{⊤}
use Rattle.std.proofs.Common.{◌≡◌, ℕ, zero, suc, ◌+◌, ◌-◌, ◌*◌, ◌/◌, ◌%◌, ◌<◌, ◌≤◌, true, false, cond, ◌&&◌, ◌==◌, nat_le, nat_lt, inl, ⊎_elim, List, [], ◌∷◌, ◌++◌, append_assoc, append-nil, drop, length, slice_get, slice_index, Option, Some, None, is_none, refl, sym, subst, ap, ◌∙◌, arith}
use Rattle.std.specs.List.{list_all}
use Rattle.std.proofs.lemmas.Bool.{false≢true}
use Rattle.std.proofs.lemmas.Bool.Decides.{nat_tests}
use Rattle.std.proofs.lemmas.Grind.{same_number_lists}
use Rattle.std.proofs.lemmas.Grind.{flat_map-append}
use Rattle.std.proofs.lemmas.List.Sums.{fold-append}
use Rattle.std.proofs.lemmas.List.Folds.{list_all-append}
use Rattle.std.proofs.lemmas.List.FromFn.{get_or-map-range_with_len, length-map-range_with_len, map-range_with_len_more}
use Rattle.std.proofs.lemmas.List.{drop_all, length-set}
use Rattle.frames.specs.Figures.{figure_questions}
use Rattle.frames.specs.Regions.{frames_needed}
use Rattle.frames.specs.Kinds.{keeps_words}
use Rattle.frames.specs.Questions.{Question, first_no}
use Rattle.frames.specs.declared.figures.LogFigures.{LogFigures}
use Rattle.frames.specs.declared.kinds.FrameKind.{FrameKind}
use Rattle.frames.specs.declared.kinds.FrameKind.TheVariants as kind
use Rattle.frames.specs.declared.regions.RegionState.{RegionState}
use Rattle.frames.specs.declared.regions.RegionState.TheVariants as region
use Rattle.journal.proofs.Fillings.{length_filled}
use Rattle.journal.proofs.Staying.{length_put}
use Rattle.journal.proofs.Inverses.{empty_ends}
use Rattle.journal.proofs.Playings.{records_none}
use Rattle.journal.proofs.Joining.{inverse_of_all}
use Rattle.journal.specs.Pictures.{Picture, apply, follows, let_go, region_of, with_words, write_into}
use Rattle.journal.specs.Playing.{apply_all, carried, encode_all, ending, outcome_after, outcome_from, outcome_of, picture_from, played, stopped, player_questions, records, start}
use Rattle.journal.specs.Readings.{reading, ends}
use Rattle.journal.specs.Records.{Change, encode, fits, declared, retired, taken, written, released, accepted, unaccepted}
use Rattle.journal.specs.Records as change
use Rattle.paging.specs.Questions.{place_reached}
use Rattle.policy.specs.Policies.{Lawful, Meaning}
use Rattle.guard.proofs.Laying.{length_put_words, put_out, words_lie}
use Rattle.guard.specs.Guarding.{Guarded, held_words, journaled, put_words, words_from}
use Rattle.guard.specs.Scans.{frame_words}
use Rattle.guard.specs.States.{State}
use Rattle.guard.specs.Steps.{accepts, piece, stored}
use Rattle.guard.specs.Calls.{Request, declare, retire, take, write, release, accept, unaccept, load_register, load_root, load, store, fetch, drain}
use Rattle.guard.specs.Calls as request
use Rattle.guard.specs.declared.calls.Answer.{Answer}
use Rattle.guarantee.specs.Guarantee.{Event, Happens, Replay, Run, figures_of, journal_of, pieces}
use Rattle.guarantee.proofs.Accepting.{Agree, Enacts, Kept, Yes, all_yes}
use Rattle.guarantee.proofs.Frames.{both, differ, is_log}
use Rattle.guarantee.proofs.Happenings.{by_answer, event_kept, pieces_on}
use Rattle.guarantee.proofs.Places.{SameFrame, frame_same, inside_or_outside, words_same}
use Rattle.guarantee.proofs.Stepping.{noting_out, store_out}
use Rattle.guarantee.proofs.Viewing.{View, copied, recorded, stored_at, unaltered, view}

-- Words of a list in two stretches.
words_on : (ws : List ℕ) (at n k : ℕ) → words_from ws at (n + k) ≡ words_from ws at n ++ words_from ws (at + n) k
words_on ws at n zero = let none : n + 0 ≡ n = omega arith in ap (words_from ws at) none ∙ sym (append-nil (words_from ws at n))
words_on ws at n (suc k) =
    let more : n + suc k ≡ n + k + 1 = omega arith in
    let last : at + (n + k) ≡ at + n + k = omega arith in
    let one : suc k ≡ k + 1 = omega arith in
    ap (words_from ws at) more
    ∙ map-range_with_len_more (slice_index ws) at (n + k) (at + (n + k)) refl
    ∙ ap (λ l. l ++ slice_index ws (at + (n + k)) ∷ []) (words_on ws at n k)
    ∙ append_assoc (words_from ws at n) (words_from ws (at + n) k) (slice_index ws (at + (n + k)) ∷ [])
    ∙ ap (λ l. words_from ws at n ++ l) (sym (map-range_with_len_more (slice_index ws) (at + n) k (at + (n + k)) (sym last)))
    ∙ ap (λ j. words_from ws at n ++ words_from ws (at + n) j) (sym one)

-- Words that were put are those that lie there.
put_there : (ws : List ℕ) (at : ℕ) (items : List ℕ) → at + length items ≤ length ws → words_from (put_words ws at items) at (length items) ≡ items
put_there ws at items room = same_number_lists _ items (length-map-range_with_len _ at (length items)) (λ k low.
    let here : k < length items = omega (arith, low, length-map-range_with_len (slice_index (put_words ws at items)) at (length items)) in
    let there : at + k < length ws = omega (arith, here, room) in
    let is : (nat_le at (at + k) && nat_lt (at + k) (at + length items)) ≡ true = grind (arith, nat_tests, here) in
    let back : at + k - at ≡ k = omega arith in
    get_or-map-range_with_len (slice_index (put_words ws at items)) at (length items) k (at + k) 0 here refl
    ∙ words_lie ws at items (at + k) there
    ∙ ap (λ b. cond b (slice_index items (at + k - at)) (slice_index ws (at + k))) is
    ∙ ap (slice_index items) back)

-- The journal holds what it held, and behind it the record.
held_on : {P : Type 0} (s : State P) (c : Change) → Kept s → Enacts s c → held_words (journaled c s.guarded) ≡ held_words s.guarded ++ encode c
held_on s c kept enacts =
    words_on after at held (length (encode c))
    ∙ (λ i. front i ++ put_there m.words (at + held) (encode c) room i)
  where
    g : Guarded
    g = s.guarded

    m : Picture
    m = apply c g.picture

    at : ℕ
    at = 512 * g.first_log

    held : ℕ
    held = g.held

    after : List ℕ
    after = put_words m.words (at + held) (encode c)

    log_end : g.first_log + g.logs ≤ length g.picture.kinds
    log_end = let is = (all_yes (figure_questions (length g.picture.kinds) g.first_log g.logs) (ap is_none kept.figures)).1.1.0 in grind (arith, nat_tests, is)

    room : at + held + length (encode c) ≤ length m.words
    room = let fits = enacts.room in let words = enacts.turned.words in let whole = kept.sound.whole in let last = log_end in omega (arith, fits, words, whole, last)

    log_frame : (k : ℕ) → at ≤ k → k < at + held → slice_get g.picture.kinds (k / 512) ≡ Some kind.Log
    log_frame k low high = kept.sound.log (k / 512) (omega (arith, low)) (let few = kept.held in omega (arith, high, few))

    before : (k : ℕ) → at ≤ k → k < at + held → slice_index m.words k ≡ slice_index g.picture.words k
    before k low high = ⊎_elim
        (λ inside. absurd (enacts.no_log (sym (enacts.turned.turns (k / 512) inside.0 inside.1) ∙ enacts.sound.log (k / 512) (omega (arith, low)) (let few = kept.held in omega (arith, high, few)))))
        (λ outside.
        let place : 512 * (k / 512) + k % 512 ≡ k = omega arith in
        ap (slice_index m.words) (sym place) ∙ enacts.turned.same (k / 512) outside (k % 512) (omega arith) ∙ ap (slice_index g.picture.words) place)
        (inside_or_outside enacts.from enacts.n (k / 512))

    front : words_from after at held ≡ words_from g.picture.words at held
    front = words_same after g.picture.words at held (λ k low high. put_out m.words (at + held) (encode c) k (inl high) ∙ before k low high)

-- A record leaves as many words.
length_applied : (c : Change) (p : Picture) → length (apply c p).words ≡ length p.words
length_applied (declared frame level) p = length_filled p.words (512 * frame) (512 * 1) 0
length_applied (change.set table index entry) p = length-set p.words (512 * table + index) entry
length_applied (retired frame) p = refl
length_applied (taken r first n) p = length_filled p.words (512 * first) (512 * frames_needed n) 0
length_applied (written r offset bytes) p = by (region_of p r)
  where
    by : (o : Option RegionState) → length (write_into p o offset bytes).words ≡ length p.words
    by None = refl
    by (Some region.Untaken) = refl
    by (Some region.Released) = refl
    by (Some (region.Live first n)) = length_put p.words (4096 * first + offset) bytes
length_applied (released r) p = by (region_of p r)
  where
    by : (o : Option RegionState) → length (let_go p o r).words ≡ length p.words
    by None = refl
    by (Some region.Untaken) = refl
    by (Some region.Released) = refl
    by (Some (region.Live first n)) = refl
length_applied (accepted frame) p = refl
length_applied (unaccepted frame) p = refl

-- A record follows, and changes kinds and regions, whatever the words are.
follows_by : (p : Picture) (ws : List ℕ) (c : Change) → follows (with_words p ws) c ≡ follows p c
follows_by p ws (declared frame level) = refl
follows_by p ws (change.set table index entry) = refl
follows_by p ws (retired frame) = refl
follows_by p ws (taken r first n) = refl
follows_by p ws (written r offset bytes) = refl
follows_by p ws (released r) = refl
follows_by p ws (accepted frame) = refl
follows_by p ws (unaccepted frame) = refl

applies_by : (p : Picture) (ws : List ℕ) (c : Change) → apply c (with_words p ws) ≡ with_words (apply c p) (apply c (with_words p ws)).words
applies_by p ws (declared frame level) = refl
applies_by p ws (change.set table index entry) = refl
applies_by p ws (retired frame) = refl
applies_by p ws (taken r first n) = refl
applies_by p ws (written r offset bytes) = by (region_of p r)
  where
    by : (o : Option RegionState) → write_into (with_words p ws) o offset bytes ≡ with_words (write_into p o offset bytes) (write_into (with_words p ws) o offset bytes).words
    by None = refl
    by (Some region.Untaken) = refl
    by (Some region.Released) = refl
    by (Some (region.Live first n)) = refl
applies_by p ws (released r) = by (region_of p r)
  where
    by : (o : Option RegionState) → let_go (with_words p ws) o r ≡ with_words (let_go p o r) (let_go (with_words p ws) o r).words
    by None = refl
    by (Some region.Untaken) = refl
    by (Some region.Released) = refl
    by (Some (region.Live first n)) = refl
applies_by p ws (accepted frame) = refl
applies_by p ws (unaccepted frame) = refl

-- Records that follow, one after the other, from a picture on.
pub AllFollow : Picture → List Change → Type 0
AllFollow p [] = ⊤
AllFollow p (c ∷ cs) = (follows p c ≡ true) × AllFollow (apply c p) cs

pub all_follow_none : (p : Picture) → AllFollow p []
unfolding AllFollow
all_follow_none p = tt

all_carried : (p : Picture) (cs : List Change) → AllFollow p cs → carried p cs ≡ cs
unfolding carried AllFollow
all_carried p [] all = refl
all_carried p (c ∷ cs) all = ap (λ b. cond b (c ∷ carried (apply c p) cs) []) all.0 ∙ ap (λ l. c ∷ l) (all_carried (apply c p) cs all.1)

one_more : (p : Picture) (cs : List Change) (c : Change) → AllFollow p cs → follows (apply_all p cs) c ≡ true → AllFollow p (cs ++ c ∷ [])
unfolding AllFollow
one_more p [] c all holds = (holds, tt)
one_more p (d ∷ cs) c all holds = (all.0, one_more (apply d p) cs c all.1 holds)

-- The records of a run so far: they are what its journal was made of, they follow one another from a new machine's picture on, and what they make of it
-- has the kinds and regions of the machine, and its words in all frames that are replayed.
pub record Told {P : Type 0} (f : LogFigures) (events : List Event) (s : State P) : Type 0 where
  pub changes : List Change
  pub ws : List ℕ
  pub fit : list_all fits changes ≡ true
  pub journal : journal_of events s ≡ encode_all changes
  pub follow : AllFollow (start f) changes
  pub picture : apply_all (start f) changes ≡ with_words s.guarded.picture ws
  pub long : length ws ≡ length s.guarded.picture.words
  pub agree : Agree ws s.guarded.picture
  pub figures : figures_of s ≡ f

-- Where the journal of a run is the same after an event, and so is all else that is told, it is told as before.
told_same : {P : Type 0} (f : LogFigures) (events : List Event) (e : Event) (s u : State P) → Told f events s → e.copied ++ held_words u.guarded ≡ held_words s.guarded → (vs : List ℕ) → u.guarded.picture ≡ with_words s.guarded.picture vs
    → length vs ≡ length s.guarded.picture.words → ((frame : ℕ) → keeps_words (slice_get s.guarded.picture.kinds frame) ≡ true → SameFrame s.guarded.picture.words vs frame)
    → figures_of u ≡ figures_of s → Told f (events ++ e ∷ []) u
told_same f events e s u told journal vs picture long same figures = record {
  changes = told.changes;
  ws = told.ws;
  fit = told.fit;
  journal =
      ap (λ l. l ++ held_words u.guarded) (pieces_on events e)
      ∙ append_assoc (pieces events) e.copied (held_words u.guarded)
      ∙ ap (λ l. pieces events ++ l) journal
      ∙ told.journal;
  follow = told.follow;
  picture = told.picture ∙ ap (λ p. with_words p told.ws) (sym picture);
  long = told.long ∙ sym long ∙ ap (λ p. length p.words) (sym picture);
  agree = subst (Agree told.ws) (sym picture) (λ frame is index low. told.agree frame is index low ∙ same frame is index low);
  figures = figures ∙ told.figures;
}

abbrev pub figures_by : Guarded → LogFigures
figures_by g = record { frames = length g.picture.kinds; first = g.first_log; count = g.logs }

-- No words from a place on.
none_from : (ws : List ℕ) (at : ℕ) → words_from ws at 0 ≡ []
none_from ws at = refl

-- A record more is told.
told_more : {P : Type 0} (f : LogFigures) (events : List Event) (e : Event) (s u : State P) (c : Change) → Told f events s → Kept s → Enacts s c → e.copied ≡ [] → u.guarded ≡ journaled c s.guarded → Told f (events ++ e ∷ []) u
told_more f events e s u c told kept enacts silent is = record {
  changes = told.changes ++ c ∷ [];
  ws = ws;
  fit = list_all-append fits told.changes (c ∷ []) ∙ both _ _ told.fit (both _ _ enacts.fits refl);
  journal =
      ap (λ l. l ++ held_words u.guarded) (pieces_on events e ∙ ap (λ l. pieces events ++ l) silent ∙ append-nil (pieces events))
      ∙ ap (λ l. pieces events ++ l) (ap held_words is ∙ held_on s c kept enacts)
      ∙ sym (append_assoc (pieces events) (held_words s.guarded) (encode c))
      ∙ ap (λ l. l ++ encode c) told.journal
      ∙ ap (λ l. encode_all told.changes ++ l) (sym (append-nil (encode c)))
      ∙ sym (flat_map-append encode told.changes (c ∷ []));
  follow = one_more (start f) told.changes c told.follow (ap (λ q. follows q c) told.picture ∙ follows_by p told.ws c ∙ enacts.follows);
  picture =
      fold-append (λ q d. apply d q) (start f) told.changes (c ∷ [])
      ∙ ap (apply c) told.picture
      ∙ applies_by p told.ws c
      ∙ ap (λ g. with_words g.picture ws) (sym is);
  long = ap length refl ∙ made_long ∙ ap (λ g. length g.picture.words) (sym is);
  agree = subst (λ g. Agree ws g.picture) (sym is) (λ frame replayed index low.
      enacts.alike told.ws told.long told.agree frame replayed index low
      ∙ sym (noting_out m s.root s.guarded.first_log s.guarded.logs s.guarded.held (encode c) enacts.sound enacts.room frame (λ log. false≢true (sym (ap keeps_words log) ∙ replayed)) index low));
  figures = ap (λ g. figures_by g) is ∙ ap (λ n. record { frames = n; first = s.guarded.first_log; count = s.guarded.logs }) enacts.turned.kinds ∙ told.figures;
}
  where
    p : Picture
    p = s.guarded.picture

    m : Picture
    m = apply c p

    ws : List ℕ
    ws = (apply c (with_words p told.ws)).words

    made_long : length ws ≡ length (put_words m.words (512 * s.guarded.first_log + s.guarded.held) (encode c))
    made_long = length_applied c (with_words p told.ws) ∙ told.long ∙ sym (length_put_words m.words (512 * s.guarded.first_log + s.guarded.held) (encode c) ∙ enacts.turned.words)

-- A refused call copies nothing out.
silent_refused : {P : Type 0} (q : Request) (answer : Answer) (s : State P) → accepts answer ≡ false → piece q answer s ≡ []
silent_refused (drain room) answer s denied = ap (λ b. cond b (held_words s.guarded) []) denied
silent_refused (declare frame level) answer s denied = refl
silent_refused (request.set table index entry) answer s denied = refl
silent_refused (retire frame) answer s denied = refl
silent_refused (take x first n) answer s denied = refl
silent_refused (write x from bytes) answer s denied = refl
silent_refused (release x) answer s denied = refl
silent_refused (accept frame) answer s denied = refl
silent_refused (unaccept frame) answer s denied = refl
silent_refused (load_register register value) answer s denied = refl
silent_refused (load_root value) answer s denied = refl
silent_refused (load address) answer s denied = refl
silent_refused (store address value) answer s denied = refl
silent_refused (fetch address) answer s denied = refl

-- Each event is told.
told_view : {P : Type 0} (f : LogFigures) (events : List Event) (e : Event) (s u : State P) → Told f events s → Kept s → accepts e.answer ≡ true → e.copied ≡ piece e.call e.answer s → View s e.call u.guarded → Told f (events ++ e ∷ []) u
told_view f events e s u told kept granted copies (recorded c asks enacts silent is) = told_more f events e s u c told kept enacts (copies ∙ silent e.answer) is
told_view f events e s u told kept granted copies (unaltered silent is) =
    told_same f events e s u told (ap (λ l. l ++ held_words u.guarded) (copies ∙ silent e.answer) ∙ ap held_words is) s.guarded.picture.words (ap (λ g. g.picture) is) refl (λ frame replayed index low. refl) (ap figures_by is)
told_view f events e s u told kept granted copies (copied room drains is) =
    told_same f events e s u told
    (ap (λ l. l ++ held_words u.guarded) (copies ∙ ap (λ q. piece q e.answer s) drains ∙ ap (λ b. cond b (held_words s.guarded) []) granted) ∙ ap (λ l. held_words s.guarded ++ l) (ap held_words is ∙ none_from (s.guarded.picture.words) (512 * s.guarded.first_log)) ∙ append-nil (held_words s.guarded))
    s.guarded.picture.words (ap (λ g. g.picture) is) refl (λ frame replayed index low. refl) (ap figures_by is)
told_view f events e s u told kept granted copies (stored_at r address value plain silent is) =
    told_same f events e s u told
    (ap (λ l. l ++ held_words u.guarded) (copies ∙ silent e.answer) ∙ ap held_words is ∙ words_same after p.words (512 * s.guarded.first_log) s.guarded.held held)
    after (ap (λ g. g.picture) is) (length-set p.words (place_reached p.words r address) value)
    (λ frame replayed index low. sym (store_out p.words r address value frame (λ same. false≢true (sym (ap keeps_words (ap (slice_get p.kinds) same ∙ plain)) ∙ replayed)) index low))
    (ap figures_by is)
  where
    p : Picture
    p = s.guarded.picture

    after : List ℕ
    after = stored p.words (Some r) address value

    held : (k : ℕ) → 512 * s.guarded.first_log ≤ k → k < 512 * s.guarded.first_log + s.guarded.held → slice_index after k ≡ slice_index p.words k
    held k low high =
        let few = kept.held in
        let log : slice_get p.kinds (k / 512) ≡ Some kind.Log = kept.sound.log (k / 512) (omega (arith, low)) (omega (arith, high, few)) in
        let place : 512 * (k / 512) + k % 512 ≡ k = omega arith in
        ap (slice_index after) (sym place)
        ∙ store_out p.words r address value (k / 512) (λ same. differ is_log _ _ (sym log ∙ ap (slice_get p.kinds) same ∙ plain) refl refl) (k % 512) (omega arith)
        ∙ ap (slice_index p.words) place

told_event : {P : Type 0} (means : Meaning P) (f : LogFigures) (events : List Event) (e : Event) (s u : State P) → Lawful means → Kept s → Happens means e s u → Told f events s → Told f (events ++ e ∷ []) u
told_event means f events e s u laws kept happens told = by_answer means e s u happens
    (λ granted ok is. told_view f events e s u told kept granted happens.copies (subst (View s e.call) (ap (λ x. x.guarded) (sym is)) (view means e.call s laws kept happens.bytes ok)))
    (λ denied is. told_view_same (happens.copies ∙ silent_refused e.call e.answer s denied) (ap (λ x. x.guarded) is))
  where
    told_view_same : e.copied ≡ [] → u.guarded ≡ s.guarded → Told f (events ++ e ∷ []) u
    told_view_same silent is = told_same f events e s u told (ap (λ l. l ++ held_words u.guarded) silent ∙ ap held_words is) s.guarded.picture.words (ap (λ g. g.picture) is) refl (λ frame replayed index low. refl) (ap figures_by is)

told_run : {P : Type 0} (means : Meaning P) (f : LogFigures) (before events : List Event) (s t : State P) → Lawful means → Kept s → Run means events s t → Told f before s → Told f (before ++ events) t
told_run means f before [] s t laws kept run told = subst (λ l. Told f l t) (sym (append-nil before)) (subst (Told f before) (sym run) told)
told_run means f before (e ∷ events) s t laws kept run told =
    subst (λ l. Told f l t) (append_assoc before (e ∷ []) events)
    (told_run means f (before ++ e ∷ []) events run.0 t laws (event_kept means e s run.0 laws kept run.1.0) run.1.1 (told_event means f before e s run.0 laws kept run.1.0 told))

-- What is told is what playing gives.
none_fails : (qs : List Question) → Yes qs → first_no qs ≡ None
none_fails [] y = refl
none_fails (q ∷ qs) y = ap (λ b. cond b (first_no qs) (Some q.0)) y.0 ∙ none_fails qs y.1

same_length : (cs : List Change) → (length cs == length cs) ≡ true
same_length cs = grind (arith, nat_tests)

records_all : (cs : List Change) → list_all fits cs ≡ true → records (encode_all cs) ≡ cs
records_all cs fit = ap records (sym (append-nil (encode_all cs))) ∙ inverse_of_all.written_read cs [] fit ∙ ap (λ l. cs ++ l) (records_none [] ends (λ _. refl) empty_ends) ∙ append-nil cs

ends_there : (cs : List Change) → list_all fits cs ≡ true → ending (encode_all cs) ≡ ends
ends_there cs fit = ap (λ l. reading (drop (length (encode_all l)) (encode_all cs))) (records_all cs fit) ∙ ap reading (drop_all (length (encode_all cs)) (encode_all cs) (omega arith)) ∙ empty_ends

plays_all : (p : Picture) (cs : List Change) → list_all fits cs ≡ true → AllFollow p cs → outcome_from p (encode_all cs) ≡ played (length cs)
plays_all p cs fit follow =
    ap (λ r. outcome_of r (records (encode_all cs)) (carried p (records (encode_all cs)))) (ends_there cs fit)
    ∙ ap (λ l. outcome_of ends l (carried p l)) (records_all cs fit)
    ∙ ap (outcome_of ends cs) (all_carried p cs follow)
    ∙ ap (λ b. cond b (played (length cs)) (stopped 53 (length cs) (length (encode_all cs)))) (same_length cs)

pictures_all : (p : Picture) (cs : List Change) → list_all fits cs ≡ true → AllFollow p cs → picture_from p (encode_all cs) ≡ apply_all p cs
pictures_all p cs fit follow = ap (λ l. apply_all p (carried p l)) (records_all cs fit) ∙ ap (apply_all p) (all_carried p cs follow)

replayed : {P : Type 0} (f : LogFigures) (events : List Event) (s t : State P) → Kept s → figures_of s ≡ f → Told f events t → Replay events s t
replayed f events s t kept begun told = record {
  records = length told.changes;
  plays = λ words kinds long more.
      ap (λ number. outcome_after number (figures_of s) (journal_of events t)) (none_fails (player_questions (figures_of s) words kinds) (asked.0, (asked.1.0, (asked.1.1.0, (room words kinds long more, tt)))))
      ∙ (λ i. outcome_from (start (begun i)) (told.journal i))
      ∙ plays_all (start f) told.changes told.fit told.follow;
  kinds = ap (λ p. p.kinds) made;
  words = λ frame is. ap (λ p. frame_words p.words frame) made ∙ frame_same told.ws t.guarded.picture.words frame (told.agree frame is);
}
  where
    asked : Yes (figure_questions (length s.guarded.picture.kinds) s.guarded.first_log s.guarded.logs)
    asked = all_yes (figure_questions (length s.guarded.picture.kinds) s.guarded.first_log s.guarded.logs) (ap is_none kept.figures)

    room : (words : List ℕ) (kinds : List FrameKind) → 512 * length s.guarded.picture.kinds ≤ length words → length s.guarded.picture.kinds ≤ length kinds → (nat_le (512 * length s.guarded.picture.kinds) (length words) && nat_le (length s.guarded.picture.kinds) (length kinds)) ≡ true
    room words kinds long more = let enough : nat_le (512 * length s.guarded.picture.kinds) (length words) ≡ true = grind (arith, nat_tests, long) in let all : nat_le (length s.guarded.picture.kinds) (length kinds) ≡ true = grind (arith, nat_tests, more) in both _ _ enough all

    made : picture_from (start (figures_of s)) (journal_of events t) ≡ with_words t.guarded.picture told.ws
    made = (λ i. picture_from (start (begun i)) (told.journal i)) ∙ pictures_all (start f) told.changes told.fit told.follow ∙ told.picture

pub replay_run : {P : Type 0} (means : Meaning P) (f : LogFigures) (events : List Event) (s t : State P) → Lawful means → Kept s → Run means events s t → Told f [] s → Replay events s t
replay_run means f events s t laws kept run told = replayed f events s t kept told.figures (told_run means f [] events s t laws kept run told)

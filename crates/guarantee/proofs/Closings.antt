-- Bytes that are closed stay what they are.
use Rattle.std.proofs.Common.{◌≡◌, ℕ, ◌+◌, ◌-◌, ◌*◌, ◌/◌, ◌%◌, ◌<◌, ◌≤◌, Bool, true, false, not, cond, ◌&&◌, ◌==◌, nat_le, nat_lt, ◌⊎◌, inl, inr, ⊎_elim, List, [], ◌∷◌, length, slice_get, slice_index, Option, Some, None, refl, sym, subst, ap, ◌∙◌, arith}
use Rattle.std.proofs.lemmas.Bool.{cases_eq, cases_lt, false≢true}
use Rattle.std.proofs.lemmas.Bool.Decides.{nat_tests}
use Rattle.std.proofs.lemmas.Option.{slice_get_within}
use Rattle.std.specs.List.{list_all}
use Rattle.memory.specs.ByteOrder.{bytes_of}
use Rattle.frames.specs.Regions.{ends_inside, frames_needed, never_taken}
use Rattle.frames.specs.Kinds.{is_plain}
use Rattle.frames.specs.declared.kinds.FrameKind.TheVariants as kind
use Rattle.frames.specs.declared.regions.RegionState.{RegionState}
use Rattle.frames.specs.declared.regions.RegionState.TheVariants as region
use Rattle.journal.proofs.Lying.{lie}
use Rattle.journal.proofs.Staying.{get_set_other}
use Rattle.journal.specs.Bytes.{are_bytes, byte_in}
use Rattle.journal.specs.Pictures.{Picture, apply, follows, let_go, region_of, write_into}
use Rattle.journal.specs.Records.{Change, encode, declared, retired, taken, written, released, accepted, unaccepted}
use Rattle.journal.specs.Records as change
use Rattle.policy.specs.Policies.{Lawful, Meaning, permitted}
use Rattle.guard.specs.Calls.{Request, declare, retire, take, write, release, accept, unaccept, load_register, load_root, load, store, fetch, drain}
use Rattle.guard.specs.Calls as request
use Rattle.guard.specs.Guarding.{Guarded, journaled}
use Rattle.guard.specs.Orders.{questions}
use Rattle.guard.specs.States.{State}
use Rattle.guard.specs.Steps.{accepts, change_for, effect, is_accepted}
use Rattle.guarantee.specs.Guarantee.{ClosedBytes, Event, Happens, Run, byte_at, releases, bytes_of_write, was_released}
use Rattle.guarantee.proofs.Accepting.{Enacts, Kept, all_yes, is_write}
use Rattle.guard.proofs.Scanning.{not_not}
use Rattle.guarantee.proofs.Frames.{differ, first_of, is_region, second_of}
use Rattle.guarantee.proofs.Happenings.{by_answer, event_kept, run_kept}
use Rattle.guarantee.proofs.Keeping.{writes_outside}
use Rattle.guarantee.proofs.Places.{SameFrame, inside_or_outside}
use Rattle.guarantee.proofs.Sounds.{Sound}
use Rattle.guarantee.proofs.Stepping.{noting_out, store_out}
use Rattle.guarantee.proofs.Viewing.{View, call_is, copied, recorded, stored_at, unaltered, view}

-- The frame of a byte of a region.
abbrev pub frame_at : ℕ → ℕ → ℕ
frame_at first offset = first + offset / 4096

-- Its byte is the same where the words of that frame are.
byte_same : (ws vs : List ℕ) (first offset : ℕ) → SameFrame ws vs (frame_at first offset) → byte_in ws (4096 * first + offset) ≡ byte_in vs (4096 * first + offset)
byte_same ws vs first offset same =
    let place : 512 * frame_at first offset + offset % 4096 / 8 ≡ (4096 * first + offset) / 8 = omega arith in
    let low : offset % 4096 / 8 < 512 = omega arith in
    ap (λ w. slice_index (bytes_of w) ((4096 * first + offset) % 8))
    (ap (slice_index ws) (sym place) ∙ same (offset % 4096 / 8) low ∙ ap (slice_index vs) place)

-- It is a frame of the region.
region_frame : (p : Picture) (root : Option ℕ) (first_log logs r first size offset : ℕ) → Sound p root first_log logs → region_of p r ≡ Some (region.Live first size) → offset < size → slice_get p.kinds (frame_at first offset) ≡ Some kind.Region
region_frame p root first_log logs r first size offset sound live low = sound.regions.lived r first size live (offset / 4096) (omega (arith, low))

-- A region that is live stays so, but for its release.
live_still : (p : Picture) (c : Change) (r first size : ℕ) → region_of p r ≡ Some (region.Live first size) → follows p c ≡ true → (c ≡ released r → ⊥) → region_of (apply c p) r ≡ Some (region.Live first size)
live_still p (declared frame level) r first size live follow kept = live
live_still p (change.set table index entry) r first size live follow kept = live
live_still p (retired frame) r first size live follow kept = live
live_still p (accepted frame) r first size live follow kept = live
live_still p (unaccepted frame) r first size live follow kept = live
live_still p (taken q from n) r first size live follow kept = get_set_other p.regions q r _ (λ same. false≢true (sym (ap never_taken (ap (slice_get p.regions) (sym same) ∙ live)) ∙ first_of _ _ follow)) ∙ live
live_still p (written q offset bytes) r first size live follow kept = by (region_of p q)
  where
    by : (o : Option RegionState) → region_of (write_into p o offset bytes) r ≡ Some (region.Live first size)
    by None = live
    by (Some region.Untaken) = live
    by (Some region.Released) = live
    by (Some (region.Live from n)) = live
live_still p (released q) r first size live follow kept = by (region_of p q)
  where
    by : (o : Option RegionState) → region_of (let_go p o q) r ≡ Some (region.Live first size)
    by None = live
    by (Some region.Untaken) = live
    by (Some region.Released) = live
    by (Some (region.Live from n)) = get_set_other p.regions q r _ (λ same. kept (ap released (sym same))) ∙ live

-- A record that is no write changes no word of a live region.
unwritten : {P : Type 0} (s : State P) (c : Change) (r first size offset : ℕ) → Kept s → Enacts s c → region_of s.guarded.picture r ≡ Some (region.Live first size) → offset < size → is_write c ≡ false → SameFrame (apply c s.guarded.picture).words s.guarded.picture.words (frame_at first offset)
unwritten s c r first size offset kept enacts live low other = ⊎_elim
    (λ inside. enacts.regions other f inside.0 inside.1 (region_frame s.guarded.picture s.root s.guarded.first_log s.guarded.logs r first size offset kept.sound live low))
    (λ outside. enacts.turned.same f outside)
    (inside_or_outside enacts.from enacts.n f)
  where
    f : ℕ
    f = frame_at first offset

-- A write changes no closed byte: where it is of the same region its span is open, and where it is of another their frames are apart.
elsewhere : (offset from n : ℕ) (base x y q : ℕ) → q ≡ base + offset → (from ≤ offset → offset < from + n → ⊥) → cond (nat_le (base + from) q && nat_lt q (base + from + n)) x y ≡ y
elsewhere offset from n base x y q at out = ap (λ b. cond b x y) (no (cases_lt offset from) (cases_lt offset (from + n)))
  where
    no : (offset < from) ⊎ (from ≤ offset) → (offset < from + n) ⊎ (from + n ≤ offset) → (nat_le (base + from) q && nat_lt q (base + from + n)) ≡ false
    no (inl below) other = grind (arith, nat_tests, at, below)
    no (inr above) (inl under) = absurd (out above under)
    no (inr above) (inr over) = grind (arith, nat_tests, at, over)

write_kept : {P : Type 0} (means : Meaning P) (s : State P) (r first size offset q from : ℕ) (bytes : List ℕ) → Lawful means → Kept s → Enacts s (written q from bytes)
    → are_bytes bytes ≡ true → permitted (means.opens s.policy q) from (length bytes) ≡ true
    → region_of s.guarded.picture r ≡ Some (region.Live first size) → offset < size → means.opens s.policy r offset ≡ false
    → byte_in (apply (written q from bytes) s.guarded.picture).words (4096 * first + offset) ≡ byte_in s.guarded.picture.words (4096 * first + offset)
write_kept means s r first size offset q from bytes laws kept enacts small allowed live low closed = ⊎_elim own other (cases_eq q r)
  where
    p : Picture
    p = s.guarded.picture

    out : q ≡ r → from ≤ offset → offset < from + length bytes → ⊥
    out same above under = false≢true (sym closed ∙ subst (λ k. means.opens s.policy k offset ≡ true) same (((laws.yes s.policy q from (length bytes)).0 allowed).1 offset above under))

    ends : q ≡ r → from + length bytes ≤ size
    ends same = let is : nat_le (from + length bytes) size ≡ true = ap (λ o. ends_inside o from (length bytes)) (sym (ap (region_of p) same ∙ live)) ∙ enacts.follows in grind (arith, nat_tests, is)

    room : 4096 * first + 4096 * frames_needed size ≤ 8 * length p.words
    room =
        let last : first + (frames_needed size - 1) < length p.kinds = slice_get_within p.kinds (first + (frames_needed size - 1)) kind.Region (kept.sound.regions.lived r first size live (frames_needed size - 1) (let l = low in omega (arith, l))) in
        let whole = kept.sound.whole in
        let l = low in
        omega (arith, last, whole, l)

    own : q ≡ r → byte_in (apply (written q from bytes) p).words (4096 * first + offset) ≡ byte_in p.words (4096 * first + offset)
    own same =
        let fits : 4096 * first + from + length bytes ≤ 8 * length p.words = (let e = ends same in let l = room in omega (arith, e, l)) in
        ap (λ o. byte_in (write_into p o from bytes).words (4096 * first + offset)) (ap (region_of p) same ∙ live)
        ∙ lie p.words (4096 * first + from) bytes small fits (4096 * first + offset)
        ∙ elsewhere offset from (length bytes) (4096 * first) _ _ (4096 * first + offset) refl (out same)

    other : (q ≡ r → ⊥) → byte_in (apply (written q from bytes) p).words (4096 * first + offset) ≡ byte_in p.words (4096 * first + offset)
    other apart = by (region_of p q) refl
      where
        by : (o : Option RegionState) → region_of p q ≡ o → byte_in (write_into p o from bytes).words (4096 * first + offset) ≡ byte_in p.words (4096 * first + offset)
        by None e = refl
        by (Some region.Untaken) e = refl
        by (Some region.Released) e = refl
        by (Some (region.Live start n)) e = byte_same _ _ first offset (⊎_elim
            (λ inside. absurd (kept.sound.regions.apart q start n r first size apart e live (frame_at first offset - start) (offset / 4096) (let i = inside in omega (arith, i.0, i.1)) (let l = low in omega (arith, l)) (let i = inside in omega (arith, i.0))))
            (λ outside. writes_outside p.words start n from bytes (inside_of n e) (frame_at first offset) outside)
            (inside_or_outside start (frames_needed n) (frame_at first offset)))
          where
            inside_of : (n : ℕ) {start : ℕ} → region_of p q ≡ Some (region.Live start n) → from + length bytes ≤ n
            inside_of n e = let is : nat_le (from + length bytes) n ≡ true = ap (λ o. ends_inside o from (length bytes)) (sym e) ∙ enacts.follows in grind (arith, nat_tests, is)

-- A byte of a region that is live and closed, and that is not released.
record Closed {P : Type 0} (means : Meaning P) (s : State P) (r first size offset : ℕ) : Type 0 where
  live : region_of s.guarded.picture r ≡ Some (region.Live first size)
  low : offset < size
  closed : means.opens s.policy r offset ≡ false

-- What is so of it after a call: it is live still, and the byte is the same.
record Stays {P : Type 0} (s : State P) (t : Guarded) (r first size offset : ℕ) : Type 0 where
  live : region_of t.picture r ≡ Some (region.Live first size)
  same : byte_in t.picture.words (4096 * first + offset) ≡ byte_in s.guarded.picture.words (4096 * first + offset)

not_released : {P : Type 0} (means : Meaning P) (q : Request) (c : Change) (r : ℕ) → change_for q ≡ Some c → releases r q ≡ false → c ≡ released r → ⊥
not_released means q c r asks other is = differ (releases r) (release r) q (sym (call_is q (released r) (asks ∙ ap Some is) refl)) (let same : (r == r) ≡ true = grind (arith, nat_tests) in same) other

-- A record leaves it so.
record_stays : {P : Type 0} (means : Meaning P) (q : Request) (s : State P) (c : Change) (r first size offset : ℕ) → Lawful means → Kept s → Closed means s r first size offset → are_bytes (bytes_of_write q) ≡ true → is_accepted means q s ≡ true → releases r q ≡ false
    → change_for q ≡ Some c → Enacts s c → Stays s (journaled c s.guarded) r first size offset
record_stays means q s c r first size offset laws kept at small ok unreleased asks enacts = record {
  live = live;
  same = byte_same _ _ first offset (noting_out m s.root s.guarded.first_log s.guarded.logs s.guarded.held (encode c) enacts.sound enacts.room (frame_at first offset)
      (λ log. differ is_region _ _ (sym (region_frame m s.root s.guarded.first_log s.guarded.logs r first size offset enacts.sound live at.low) ∙ log) refl refl))
      ∙ by c refl;
}
  where
    m : Picture
    m = apply c s.guarded.picture

    live : region_of m r ≡ Some (region.Live first size)
    live = live_still s.guarded.picture c r first size at.live enacts.follows (not_released means q c r asks unreleased)

    place : ℕ
    place = 4096 * first + offset

    plain : is_write c ≡ false → byte_in m.words place ≡ byte_in s.guarded.picture.words place
    plain other = byte_same _ _ first offset (unwritten s c r first size offset kept enacts at.live at.low other)

    allowed : (x from : ℕ) (bytes : List ℕ) → q ≡ write x from bytes → permitted (means.opens s.policy x) from (length bytes) ≡ true
    allowed x from bytes call = (all_yes (questions means (write x from bytes) s) (subst (λ k. is_accepted means k s ≡ true) call ok)).1.1.1.1.1.0

    wrote : (x from : ℕ) (bytes : List ℕ) → c ≡ written x from bytes → byte_in m.words place ≡ byte_in s.guarded.picture.words place
    wrote x from bytes is =
        let call : q ≡ write x from bytes = call_is q (written x from bytes) (asks ∙ ap Some is) refl in
        ap (λ d. byte_in (apply d s.guarded.picture).words place) is
        ∙ write_kept means s r first size offset x from bytes laws kept (subst (Enacts s) is enacts) (subst (λ k. are_bytes (bytes_of_write k) ≡ true) call small) (allowed x from bytes call) at.live at.low at.closed

    by : (d : Change) → c ≡ d → byte_in m.words place ≡ byte_in s.guarded.picture.words place
    by (written x from bytes) is = wrote x from bytes is
    by (declared frame level) is = plain (ap is_write is)
    by (change.set table index entry) is = plain (ap is_write is)
    by (retired frame) is = plain (ap is_write is)
    by (taken x from n) is = plain (ap is_write is)
    by (released x) is = plain (ap is_write is)
    by (accepted frame) is = plain (ap is_write is)
    by (unaccepted frame) is = plain (ap is_write is)

-- And so does every accepted call that is no release of it.
view_stays : {P : Type 0} (means : Meaning P) (q : Request) (s : State P) (t : Guarded) (r first size offset : ℕ) → Lawful means → Kept s → Closed means s r first size offset → are_bytes (bytes_of_write q) ≡ true → is_accepted means q s ≡ true → releases r q ≡ false
    → View s q t → Stays s t r first size offset
view_stays means q s t r first size offset laws kept at small ok unreleased (recorded c asks enacts silent is) = subst (λ g. Stays s g r first size offset) (sym is) (record_stays means q s c r first size offset laws kept at small ok unreleased asks enacts)
view_stays means q s t r first size offset laws kept at small ok unreleased (stored_at x address value plain silent is) = subst (λ g. Stays s g r first size offset) (sym is) (record {
  live = at.live;
  same = byte_same _ _ first offset (store_out s.guarded.picture.words x address value (frame_at first offset) (λ same.
      differ is_plain _ _ (sym plain ∙ sym (ap (slice_get s.guarded.picture.kinds) same) ∙ region_frame s.guarded.picture s.root s.guarded.first_log s.guarded.logs r first size offset kept.sound at.live at.low) refl refl));
})
view_stays means q s t r first size offset laws kept at small ok unreleased (copied room drains is) = subst (λ g. Stays s g r first size offset) (sym is) (record { live = at.live; same = refl })
view_stays means q s t r first size offset laws kept at small ok unreleased (unaltered silent is) = subst (λ g. Stays s g r first size offset) (sym is) (record { live = at.live; same = refl })

-- What is closed stays closed.
closed_still : {P : Type 0} (means : Meaning P) (q : Request) (s : State P) (r offset : ℕ) → Lawful means → means.opens s.policy r offset ≡ false → means.opens (effect means q s).policy r offset ≡ false
closed_still means (write x from bytes) s r offset laws closed = laws.closed s.policy x from (length bytes) r offset closed
closed_still means (declare frame level) s r offset laws closed = closed
closed_still means (request.set table index entry) s r offset laws closed = closed
closed_still means (retire frame) s r offset laws closed = closed
closed_still means (take x first n) s r offset laws closed = closed
closed_still means (release x) s r offset laws closed = closed
closed_still means (accept frame) s r offset laws closed = closed
closed_still means (unaccept frame) s r offset laws closed = closed
closed_still means (load_register register value) s r offset laws closed = closed
closed_still means (load_root value) s r offset laws closed = closed
closed_still means (load address) s r offset laws closed = closed
closed_still means (store address value) s r offset laws closed = closed
closed_still means (fetch address) s r offset laws closed = closed
closed_still means (drain room) s r offset laws closed = closed

-- Through an event, and through a run.
record Goes {P : Type 0} (means : Meaning P) (s u : State P) (r first size offset : ℕ) : Type 0 where
  closed : Closed means u r first size offset
  same : byte_at u first offset ≡ byte_at s first offset

event_goes : {P : Type 0} (means : Meaning P) (e : Event) (s u : State P) (r first size offset : ℕ) → Lawful means → Kept s → Happens means e s u → Closed means s r first size offset → was_released r e ≡ false → Goes means s u r first size offset
event_goes means e s u r first size offset laws kept happens at unreleased = by_answer means e s u happens
    (λ granted ok is. subst (λ x. Goes means s x r first size offset) (sym is) (went (view_stays means e.call s _ r first size offset laws kept at happens.bytes ok (other granted) (view means e.call s laws kept happens.bytes ok))))
    (λ refused is. subst (λ x. Goes means s x r first size offset) (sym is) (record { closed = at; same = refl }))
  where
    other : accepts e.answer ≡ true → releases r e.call ≡ false
    other granted = no (releases r e.call) (accepts e.answer) granted unreleased
      where
        no : (a b : Bool) → b ≡ true → (a && b) ≡ false → a ≡ false
        no true true e1 e2 = e2
        no true false e1 e2 = absurd (false≢true e1)
        no false b e1 e2 = refl

    went : Stays s (effect means e.call s).guarded r first size offset → Goes means s (effect means e.call s) r first size offset
    went stays = record { closed = record { live = stays.live; low = at.low; closed = closed_still means e.call s r offset laws at.closed }; same = stays.same }

run_same : {P : Type 0} (means : Meaning P) (events : List Event) (s t : State P) (r first size offset : ℕ) → Lawful means → Kept s → Run means events s t → Closed means s r first size offset → list_all (λ e. not (was_released r e)) events ≡ true
    → (region_of t.guarded.picture r ≡ Some (region.Live first size)) × (byte_at s first offset ≡ byte_at t first offset)
run_same means [] s t r first size offset laws kept run at unreleased = (ap (λ x. region_of x.guarded.picture r) run ∙ at.live, ap (λ x. byte_at x first offset) (sym run))
run_same means (e ∷ events) s t r first size offset laws kept run at unreleased =
    let goes = event_goes means e s run.0 r first size offset laws kept run.1.0 at (not_not (was_released r e) (first_of _ _ unreleased)) in
    let rest = run_same means events run.0 t r first size offset laws (event_kept means e s run.0 laws kept run.1.0) run.1.1 goes.closed (second_of _ _ unreleased) in
    (rest.0, sym goes.same ∙ rest.1)

pub closed_bytes : {P : Type 0} (means : Meaning P) (events : List Event) (s t : State P) → Lawful means → Kept s → ClosedBytes means events s t
closed_bytes means events s t laws kept before since u split first second region start size offset live low closed unreleased =
    run_same means since u t region start size offset laws (run_kept means before s u laws kept first) second (record { live = live; low = low; closed = closed }) unreleased

-- Tasks that are carried out one after the other.
use Rattle.std.proofs.Common.{◌≡◌, ℕ, zero, suc, ◌+◌, ◌-◌, ◌*◌, ◌<◌, ◌≤◌, Bool, true, false, cond, List, [], ◌∷◌, ◌++◌, length, Option, Some, None, is_none, unwrap_or, drop, map, append_assoc, append-nil, refl, sym, subst, ap, ◌∙◌, arith}
use Rattle.std.proofs.lemmas.Bool.Decides.{nat_tests}
use Rattle.std.proofs.lemmas.List.FromFn.{length-map-range_with_len}
use Rattle.std.proofs.Common.{get_or, set as put, take as take_items}
use Rattle.std.proofs.lemmas.List.{drop-drop, drop_all, length-append, length-drop, length-take-le, take_all, take_more, length-map, map-append}
use borrow.Rule.Slice.PartMut.{mid_of, put_mid}
use Rattle.std.proofs.Math.Seq.{drop-append_seam, take-append_seam}
use Rattle.std.specs.Prelude.{slice_index}
use Rattle.policy.specs.Policies.{Meaning}
use Rattle.guard.specs.Calls.{Request, count_in, declare, retire, write, release, accept, unaccept, load_register, load_root, load, store, fetch, drain, request_of}
use Rattle.guard.specs.Calls as request
use Rattle.guard.specs.Guarding.{held_words}
use Rattle.guard.specs.Orders.{questions}
use Rattle.guard.specs.States.{State}
use Rattle.guard.specs.Steps.{Step, accepts, counted, piece, with_piece}
use Rattle.guard.specs.declared.calls.Answer.{Answer}
use Rattle.guard.specs.declared.calls.Answer.TheVariants.{Done, Word, Drained, Refused, Faulted}
use Rattle.guard.specs.declared.calls.Call.{Call}
use Rattle.guard.specs.declared.calls.Call.TheVariants as call
use Rattle.guarantee.proofs.Accepting.{all_yes}
use Rattle.guarantee.proofs.Happenings.{pieces_on, run_on}
use Rattle.guarantee.specs.Guarantee.{Event, Happens, pieces}
use Rattle.machine.specs.Runs.{OfTasks, RunOf, drained_in, event_of, overlaid, task_request}
use Rattle.machine.specs.declared.run.Task.{Task}

-- A call copies nothing out.
pub quiet : {P : Type 0} (c : Call) (answer : Answer) (s : State P) → piece (request_of c) answer s ≡ []
quiet (call.Declare frame level) answer s = refl
quiet (call.Set table index entry) answer s = refl
quiet (call.Retire frame) answer s = refl
quiet (call.Take region first n) answer s = refl
quiet (call.Write region offset bytes) answer s = refl
quiet (call.Release region) answer s = refl
quiet (call.Accept frame) answer s = refl
quiet (call.Unaccept frame) answer s = refl
quiet (call.LoadRegister register value) answer s = refl
quiet (call.LoadRoot value) answer s = refl
quiet (call.Load address) answer s = refl
quiet (call.Store address value) answer s = refl
quiet (call.Fetch address) answer s = refl

-- What an answer says was copied out, by its count.
by_count : (answer : Answer) → drained_in answer ≡ unwrap_or (count_in answer) 0
by_count Done = refl
by_count (Word word) = refl
by_count (Drained n) = refl
by_count (Refused refusal) = refl
by_count (Faulted fault) = refl

-- It is the length of what was copied,
counts : {P : Type 0} (means : Meaning P) (q : Request) (answer : Answer) (s t : State P) → Step means q answer s t → drained_in answer ≡ length (piece q answer s)
counts means q answer s t step = by_count answer ∙ ap (λ o. unwrap_or o 0) step.count ∙ by q
  where
    nothing : Option ℕ
    nothing = None

    none : (b : Bool) → unwrap_or (cond b nothing None) 0 ≡ zero
    none true = refl
    none false = refl

    some : (b : Bool) → unwrap_or (cond b (Some s.guarded.held) None) 0 ≡ length (cond b (held_words s.guarded) [])
    some true = sym (length-map-range_with_len (slice_index s.guarded.picture.words) (512 * s.guarded.first_log) s.guarded.held)
    some false = refl

    by : (q : Request) → unwrap_or (cond (accepts answer) (counted q s) None) 0 ≡ length (piece q answer s)
    by (declare frame level) = none (accepts answer)
    by (request.set table index entry) = none (accepts answer)
    by (retire frame) = none (accepts answer)
    by (request.take region first n) = none (accepts answer)
    by (write region offset bytes) = none (accepts answer)
    by (release region) = none (accepts answer)
    by (accept frame) = none (accepts answer)
    by (unaccept frame) = none (accepts answer)
    by (load_register register value) = none (accepts answer)
    by (load_root value) = none (accepts answer)
    by (load address) = none (accepts answer)
    by (store address value) = none (accepts answer)
    by (fetch address) = none (accepts answer)
    by (drain room) = some (accepts answer)

pub drained_counts : {P : Type 0} (means : Meaning P) (room : ℕ) (answer : Answer) (s t : State P) → Step means (drain room) answer s t → drained_in answer ≡ length (cond (accepts answer) (held_words s.guarded) [])
drained_counts means room answer s t step = counts means (drain room) answer s t step

-- and no more than the list has room for.
pub fits : {P : Type 0} (means : Meaning P) (room : ℕ) (answer : Answer) (s t : State P) → Step means (drain room) answer s t → drained_in answer ≤ room
fits means room answer s t step = subst (λ n. n ≤ room) (sym (by_count answer ∙ ap (λ o. unwrap_or o 0) step.count)) (by (accepts answer) refl)
  where
    by : (b : Bool) → accepts answer ≡ b → unwrap_or (cond b (Some s.guarded.held) None) 0 ≤ room
    by false is = omega arith
    by true is = let asked = (all_yes (questions means (drain room) s) (sym (ap is_none step.number) ∙ is)).1.0 in grind (arith, nat_tests, asked)

-- A list with one more of its items replaced.
overlaid_none : {A : Type 0} (xs : List A) → overlaid xs [] ≡ xs
overlaid_none [] = refl
overlaid_none (x ∷ xs) = refl

overlaid_more : {A : Type 0} (xs items : List A) (x : A) → overlaid xs (items ++ x ∷ []) ≡ put (overlaid xs items) (length items) x
overlaid_more [] items x = refl
overlaid_more (y ∷ xs) [] x = ap (λ l. x ∷ l) (overlaid_none xs)
overlaid_more (y ∷ xs) (item ∷ items) x = ap (λ l. item ∷ l) (overlaid_more xs items x)

-- One event more of one task more.
carries_more : (ts : List Task) (t : Task) (room : ℕ) (es : List Event) (e : Event) → OfTasks ts room es → e.call ≡ task_request t (room - length (pieces es)) → OfTasks (ts ++ t ∷ []) room (es ++ e ∷ [])
carries_more [] t room [] e carries is = let all : room - 0 ≡ room = omega arith in (is ∙ ap (task_request t) all, tt)
carries_more [] t room (d ∷ es) e carries is = absurd carries
carries_more (u ∷ ts) t room [] e carries is = absurd carries
carries_more (u ∷ ts) t room (d ∷ es) e carries is =
    let less : room - length (pieces (d ∷ es)) ≡ room - length d.copied - length (pieces es) = (let long = length-append d.copied (pieces es) in omega (arith, long)) in
    (carries.0, carries_more ts t (room - length d.copied) es e carries.1 (is ∙ ap (task_request t) less))

same_count : (ts : List Task) (room : ℕ) (es : List Event) → OfTasks ts room es → length es ≡ length ts
same_count [] room [] carries = refl
same_count [] room (d ∷ es) carries = absurd carries
same_count (u ∷ ts) room [] carries = absurd carries
same_count (u ∷ ts) room (d ∷ es) carries = ap suc (same_count ts (room - length d.copied) es carries.1)

-- What was copied out so far stands at the front of the archive, and what is copied out next goes behind it.
filed_more : (archive now piece more : List ℕ) → now ≡ with_piece piece archive → length piece ≤ length archive → take_items (length piece) now ++ with_piece more (drop (length piece) now) ≡ with_piece (piece ++ more) archive
filed_more archive now piece more is fits =
    let rest : drop (length piece) now ≡ drop (length piece) archive = ap (drop (length piece)) is ∙ drop-append_seam piece (drop (length piece) archive) in
    let front : take_items (length piece) now ≡ piece = ap (take_items (length piece)) is ∙ take-append_seam piece (drop (length piece) archive) in
    (λ i. front i ++ with_piece more (rest i))
    ∙ sym (append_assoc piece more (drop (length more) (drop (length piece) archive)))
    ∙ ap (λ l. (piece ++ more) ++ l) (drop-drop (length more) (length piece) archive ∙ ap (λ n. drop n archive) (sym (length-append piece more)))

pub run_more : {P : Type 0} (means : Meaning P) (ts : List Task) (t : Task) (s u v : State P) (answers now after : List Answer) (archive held list : List ℕ) (drained more : ℕ) (e : Event)
    → RunOf means ts s u answers now archive held drained → Happens means e u v → e.call ≡ task_request t (length archive - drained) → after ≡ put now (length ts) e.answer
    → list ≡ take_items drained held ++ with_piece e.copied (drop drained held) → more ≡ drained + length e.copied → more ≤ length archive → RunOf means (ts ++ t ∷ []) s v answers after archive list more
run_more means ts t s u v answers now after archive held list drained more e so happens asks told filed count within = record {
  events = so.events ++ e ∷ [];
  calls = carries_more ts t (length archive) so.events e so.calls (asks ∙ ap (λ n. task_request t (length archive - n)) so.count);
  run = run_on means so.events (e ∷ []) s u v so.run (v, (happens, refl));
  told = told
      ∙ (λ i. put (so.told i) (sym (length-map so.events (λ d. d.answer) ∙ same_count ts (length archive) so.events so.calls) i) e.answer)
      ∙ sym (overlaid_more answers (map (λ d. d.answer) so.events) e.answer)
      ∙ ap (overlaid answers) (sym (map-append (λ d. d.answer) so.events (e ∷ [])));
  filed = filed
      ∙ ap (λ n. take_items n held ++ with_piece e.copied (drop n held)) so.count
      ∙ filed_more archive held (pieces so.events) e.copied so.filed (subst (λ n. n ≤ length archive) so.count so.within)
      ∙ ap (λ l. with_piece l archive) (sym (pieces_on so.events e));
  count = count ∙ (let had = so.count in let long = length-append (pieces so.events) e.copied in let all : length (pieces (so.events ++ e ∷ [])) ≡ length (pieces so.events ++ e.copied) = ap length (pieces_on so.events e) in omega (arith, had, long, all));
  within = within;
}

pub run_none : {P : Type 0} (means : Meaning P) (s : State P) (answers : List Answer) (archive : List ℕ) → RunOf means [] s s answers answers archive archive 0
run_none means s answers archive = record {
  events = [];
  calls = tt;
  run = refl;
  told = sym (overlaid_none answers);
  filed = refl;
  count = refl;
  within = omega arith;
}

-- The same in the words of the loop: the list of the next task is what is left of the archive.
pub run_step : {P : Type 0} (means : Meaning P) (tasks : List Task) (i : ℕ) (d : Task) (s u v : State P) (answers now after : List Answer) (archive held list : List ℕ) (drained count : ℕ) (answer : Answer)
    → RunOf means (take_items i tasks) s u answers now archive held drained × (length held ≡ length archive)
    → i < length tasks
    → Happens means (event_of (task_request (get_or tasks i d) (length (mid_of drained (length held - drained) held))) answer u) u v
    → list ≡ with_piece (piece (task_request (get_or tasks i d) (length (mid_of drained (length held - drained) held))) answer u) (mid_of drained (length held - drained) held)
    → drained_in answer ≡ length (piece (task_request (get_or tasks i d) (length (mid_of drained (length held - drained) held))) answer u)
    → drained_in answer ≤ length (mid_of drained (length held - drained) held)
    → count ≡ drained_in answer
    → after ≡ put now i answer
    → RunOf means (take_items (i + 1) tasks) s v answers after archive (put_mid drained (length held - drained) held list) (drained + count) × (length (put_mid drained (length held - drained) held list) ≡ length archive)
run_step means tasks i d s u v answers now after archive held list drained count answer so inside happens is counted low number told = (
  subst (λ ts. RunOf means ts s v answers after archive (put_mid drained (length held - drained) held list) (drained + count)) (sym (take_more tasks i d inside))
      (run_more means (take_items i tasks) (get_or tasks i d) s u v answers now after archive held _ drained (drained + count) e so.0 happens
      (ap (task_request (get_or tasks i d)) room_is)
      (told ∙ ap (λ k. put now k answer) (sym done))
      placed
      (ap (λ n. drained + n) (number ∙ counted))
      (omega (arith, number, low, room_is, so.0.within))),
  ap length placed ∙ long,
)
  where
    room : ℕ
    room = length (mid_of drained (length held - drained) held)

    e : Event
    e = event_of (task_request (get_or tasks i d) room) answer u

    part : mid_of drained (length held - drained) held ≡ drop drained held
    part = take_all (length held - drained) (drop drained held) (let l = length-drop drained held in omega (arith, l))

    room_is : room ≡ length archive - drained
    room_is = ap length part ∙ length-drop drained held ∙ ap (λ n. n - drained) so.1

    done : length (take_items i tasks) ≡ i
    done = length-take-le i tasks (omega (arith, inside))

    placed : put_mid drained (length held - drained) held list ≡ take_items drained held ++ with_piece e.copied (drop drained held)
    placed =
        ap (λ l. take_items drained held ++ (list ++ l)) (drop_all (length held - drained) (drop drained held) (let l = length-drop drained held in omega (arith, l)))
        ∙ ap (λ l. take_items drained held ++ l) (append-nil list ∙ is ∙ ap (with_piece e.copied) part)

    long : length (take_items drained held ++ with_piece e.copied (drop drained held)) ≡ length archive
    long =
        length-append (take_items drained held) (with_piece e.copied (drop drained held))
        ∙ ap (λ n. length (take_items drained held) + n) (length-append e.copied (drop (length e.copied) (drop drained held)))
        ∙ sizes
      where
        sizes : length (take_items drained held) + (length e.copied + length (drop (length e.copied) (drop drained held))) ≡ length archive
        sizes =
            let a : length (take_items drained held) ≡ drained = length-take-le drained held (let w = so.0.within in let l = so.1 in omega (arith, w, l)) in
            let b = length-drop (length e.copied) (drop drained held) in
            let c = length-drop drained held in
            let w = so.0.within in
            let l = so.1 in
            let r = room_is in
            omega (arith, a, b, c, w, l, r, counted, low)

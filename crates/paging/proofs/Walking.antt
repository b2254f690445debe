-- The walk's answers are the translations of the address, and its faults say where and why it ended.
use Rattle.std.proofs.Common.{◌≡◌, ℕ, ◌<◌, ◌≤◌, Bool, true, false, not, ◌⊎◌, inl, inr, List, Ok, Err, Result, lit<, lit≤, refl, sym, ap, ◌∙◌, subst, arith}
use Rattle.std.proofs.lemmas.Bool.{cases_Bool}
use Rattle.frames.specs.Kinds.{level_number}
use Rattle.frames.specs.declared.kinds.Level.{Level}
use Rattle.frames.specs.declared.kinds.Level.TheVariants.{One, Two, Three, Four}
use Rattle.paging.specs.Entries.{no_execute, present, writable}
use Rattle.paging.specs.Walks.{AnswersTranslate, EndsAt, FaultsSay, Leads, Translates, all_present, ends_at, entry_on, first_failing, lack_of, on_all, page_of, passes, permits, table_at, walked}
use Rattle.paging.specs.declared.faults.Access.{Access}
use Rattle.paging.specs.declared.faults.Access.TheVariants.{Load, Store, Fetch}
use Rattle.paging.specs.declared.faults.Lack.{Lack}
use Rattle.paging.specs.declared.faults.Lack.TheVariants.{Absent, ReadOnly, NoExecute}
use Rattle.paging.specs.declared.faults.WalkFault.{WalkFault}

-- All four levels pass a test.
record Passed (test : Level → Bool) : Type 0 where
  pub four : test Four ≡ true
  pub three : test Three ≡ true
  pub two : test Two ≡ true
  pub one : test One ≡ true

-- The first level that fails a test is the fault's, and the fault has the lack and the table that are given.
record Failed (lack_given : Lack) (table_on : Level → ℕ) (test : Level → Bool) (fault : WalkFault) : Type 0 where
  pub lack : fault.lack ≡ lack_given
  pub table : fault.table ≡ table_on fault.level
  pub fails : test fault.level ≡ false
  pub above : (level : Level) → level_number fault.level < level_number level → test level ≡ true

-- A test that all pass leaves what comes next.
passed_next : (lack : Lack) (table_on : Level → ℕ) (test : Level → Bool) (next : Result ℕ WalkFault) → Passed test → ends_at lack table_on (first_failing test) next ≡ next
passed_next lack table_on test next all = rw (all.four, all.three, all.two, all.one) refl

-- An answer behind a test: all passed it, and it is the answer of what comes next.
ok_passed : (lack : Lack) (table_on : Level → ℕ) (test : Level → Bool) (next : Result ℕ WalkFault) (frame : ℕ)
    → ends_at lack table_on (first_failing test) next ≡ Ok frame → Passed test × (next ≡ Ok frame)
ok_passed lack table_on test next frame e = (record { four = grind arith; three = grind arith; two = grind arith; one = grind arith }, grind arith)

-- Two answers that are one are of one frame.
same_frame : (a b : ℕ) → (let answer : ℕ → Result ℕ WalkFault = Ok in answer a ≡ answer b) → a ≡ b
same_frame a b e = cc

-- Where a walk answers, the tables that it read translate the address.
translates : (words : List ℕ) (root address frame : ℕ) (access : Access) → walked words root address access ≡ Ok frame → Translates words root address frame access
translates words root address frame access e =
    let on : Level → ℕ = entry_on words root address in
    let table_on : Level → ℕ = table_at words root address in
    let p = ok_passed Absent table_on (λ level. present (on level)) _ frame e in
    let q = ok_passed (lack_of access) table_on (λ level. permits access (on level)) (Ok (page_of words root address)) frame p.1 in
    record {
      third = table_on Three;
      second = table_on Two;
      first = table_on One;
      from_root = record { is_present = p.0.four; is_permitted = q.0.four; names = refl };
      from_third = record { is_present = p.0.three; is_permitted = q.0.three; names = refl };
      from_second = record { is_present = p.0.two; is_permitted = q.0.two; names = refl };
      from_first = record { is_present = p.0.one; is_permitted = q.0.one; names = same_frame _ _ q.1 };
    }

-- Where tables translate an address, the walk reads those tables,
leads_on : (words : List ℕ) (address : ℕ) (access : Access) (level : Level) (table table' frame : ℕ) → table ≡ table' → Leads words address access level table' frame → Leads words address access level table frame
leads_on words address access level table table' frame e l = subst (λ t. Leads words address access level t frame) (sym e) l

-- and answers with the frame.
answers : (words : List ℕ) (root address frame : ℕ) (access : Access) → Translates words root address frame access → walked words root address access ≡ Ok frame
answers words root address frame access t =
    let on : Level → ℕ = entry_on words root address in
    let table_on : Level → ℕ = table_at words root address in
    let third : table_on Three ≡ t.third = t.from_root.names in
    let three = leads_on words address access Three (table_on Three) t.third t.second third t.from_third in
    let second : table_on Two ≡ t.second = three.names in
    let two = leads_on words address access Two (table_on Two) t.second t.first second t.from_second in
    let first : table_on One ≡ t.first = two.names in
    let one = leads_on words address access One (table_on One) t.first frame first t.from_first in
    passed_next Absent table_on (λ level. present (on level)) _ (record { four = t.from_root.is_present; three = three.is_present; two = two.is_present; one = one.is_present })
    ∙ passed_next (lack_of access) table_on (λ level. permits access (on level)) _ (record { four = t.from_root.is_permitted; three = three.is_permitted; two = two.is_permitted; one = one.is_permitted })
    ∙ ap Ok one.names

pub answers_translate : AnswersTranslate
answers_translate = record { answered = translates; answers = answers }

-- The first level that fails a test is where what asks it ends.
first_ends : (lack : Lack) (table_on : Level → ℕ) (test : Level → Bool) (next : Result ℕ WalkFault) (level : Level)
    → test level ≡ false → ((higher : Level) → level_number level < level_number higher → test higher ≡ true)
    → ends_at lack table_on (first_failing test) next ≡ Err (record { lack = lack; level = level; table = table_on level })
first_ends lack table_on test next Four fails above = rw fails refl
first_ends lack table_on test next Three fails above = rw (above Four (lit< tt), fails) refl
first_ends lack table_on test next Two fails above = rw (above Four (lit< tt), above Three (lit< tt), fails) refl
first_ends lack table_on test next One fails above = rw (above Four (lit< tt), above Three (lit< tt), above Two (lit< tt), fails) refl

-- A fault is its parts.
parts : (fault : WalkFault) (lack_given : Lack) (table_given : ℕ) → fault.lack ≡ lack_given → fault.table ≡ table_given
    → (let whole : WalkFault = record { lack = lack_given; level = fault.level; table = table_given } in whole ≡ fault)
parts fault lack_given table_given p q = rw (← p, ← q) refl

-- So a fault that says so is the one that it ends with.
failed_ends : (lack : Lack) (table_on : Level → ℕ) (test : Level → Bool) (next : Result ℕ WalkFault) (fault : WalkFault)
    → Failed lack table_on test fault → ends_at lack table_on (first_failing test) next ≡ Err fault
failed_ends lack table_on test next fault f =
    first_ends lack table_on test next fault.level f.fails f.above ∙ ap Err (parts fault lack (table_on fault.level) f.lack f.table)

-- And the fault that it ends with says so.
first_failed : (lack : Lack) (table_on : Level → ℕ) (test : Level → Bool) (fault : WalkFault) (level : Level)
    → test level ≡ false → ((higher : Level) → level_number level < level_number higher → test higher ≡ true)
    → (let ends : WalkFault → Result ℕ WalkFault = Err in ends (record { lack = lack; level = level; table = table_on level }) ≡ ends fault) → Failed lack table_on test fault
first_failed lack table_on test fault level fails above e =
    let start : WalkFault = record { lack = lack; level = level; table = table_on level } in
    let same : start ≡ fault = cc in
    subst (Failed lack table_on test) same (record { lack = refl; table = refl; fails = fails; above = above })

-- A test that the levels pass that lie above one.
higher : (test : Level → Bool) (number : ℕ) → 1 ≤ number → (number < 4 → test Four ≡ true) → (number < 3 → test Three ≡ true) → (number < 2 → test Two ≡ true)
    → (level : Level) → number < level_number level → test level ≡ true
higher test number some four three two Four h = four h
higher test number some four three two Three h = three h
higher test number some four three two Two h = two h
higher test number some four three two One h = absurd (omega arith)

-- An end behind a test: the fault is that of the first level that fails; or all passed, and it is the end of what comes next.
err_failed : (lack : Lack) (table_on : Level → ℕ) (test : Level → Bool) (next : Result ℕ WalkFault) (fault : WalkFault)
    → ends_at lack table_on (first_failing test) next ≡ Err fault → Failed lack table_on test fault ⊎ (Passed test × (next ≡ Err fault))
err_failed lack table_on test next fault e =
    elim (cases_Bool (test Four)) [
      | inr no4 ↦ inl (first_failed lack table_on test fault Four no4 (higher test 4 (lit≤ tt) (λ h. absurd (omega arith)) (λ h. absurd (omega arith)) (λ h. absurd (omega arith))) (rw no4 at e))
      | inl yes4 ↦ elim (cases_Bool (test Three)) [
        | inr no3 ↦ inl (first_failed lack table_on test fault Three no3 (higher test 3 (lit≤ tt) (λ _. yes4) (λ h. absurd (omega arith)) (λ h. absurd (omega arith))) (rw (yes4, no3) at e))
        | inl yes3 ↦ elim (cases_Bool (test Two)) [
          | inr no2 ↦ inl (first_failed lack table_on test fault Two no2 (higher test 2 (lit≤ tt) (λ _. yes4) (λ _. yes3) (λ h. absurd (omega arith))) (rw (yes4, yes3, no2) at e))
          | inl yes2 ↦ elim (cases_Bool (test One)) [
            | inr no1 ↦ inl (first_failed lack table_on test fault One no1 (higher test 1 (lit≤ tt) (λ _. yes4) (λ _. yes3) (λ _. yes2)) (rw (yes4, yes3, yes2, no1) at e))
            | inl yes1 ↦ inr (record { four = yes4; three = yes3; two = yes2; one = yes1 }, rw (yes4, yes3, yes2, yes1) at e)
          ]
        ]
      ]
    ]

-- A test that all levels pass, as one Bool and level by level.
all_passed : (test : Level → Bool) → on_all test ≡ true → Passed test
all_passed test e = record { four = grind arith; three = grind arith; two = grind arith; one = grind arith }

passed_all : (test : Level → Bool) → Passed test → on_all test ≡ true
passed_all test p = rw (p.four, p.three, p.two, p.one) refl

-- What a fault says whose level was the first to fail a test for its lack.
said : (words : List ℕ) (root address : ℕ) (access : Access) (lack : Lack) (test : ℕ → Bool) (fault : WalkFault) → ((entry : ℕ) → passes lack entry ≡ test entry)
    → Failed lack (table_at words root address) (λ level. test (entry_on words root address level)) fault
    → ((lack ≡ Absent → ⊥) → all_present words root address ≡ true) → ((lack ≡ Absent → ⊥) → lack ≡ lack_of access) → EndsAt words root address access fault
said words root address access lack test fault same f all due = record {
  fails = ap (λ l. passes l (entry_on words root address fault.level)) f.lack ∙ same (entry_on words root address fault.level) ∙ f.fails;
  table = f.table;
  above = λ level h. ap (λ l. passes l (entry_on words root address level)) f.lack ∙ same (entry_on words root address level) ∙ f.above level h;
  presence = λ apart. all (λ e. apart (f.lack ∙ e));
  needed = λ apart. f.lack ∙ due (λ e. apart (f.lack ∙ e));
}

-- It says so where the access is not permitted;
said_of : (words : List ℕ) (root address : ℕ) (access : Access) (fault : WalkFault)
    → Failed (lack_of access) (table_at words root address) (λ level. permits access (entry_on words root address level)) fault
    → all_present words root address ≡ true → EndsAt words root address access fault
said_of words root address Load fault f all = absurd (cc f.fails)
said_of words root address Store fault f all = said words root address Store ReadOnly writable fault (λ _. refl) f (λ _. all) (λ _. refl)
said_of words root address Fetch fault f all = said words root address Fetch NoExecute (λ entry. not (no_execute entry)) fault (λ _. refl) f (λ _. all) (λ _. refl)

-- so it says so wherever a walk ends.
ended : (words : List ℕ) (root address : ℕ) (access : Access) (fault : WalkFault) → walked words root address access ≡ Err fault → EndsAt words root address access fault
ended words root address access fault e =
    let on : Level → ℕ = entry_on words root address in
    let table_on : Level → ℕ = table_at words root address in
    elim (err_failed Absent table_on (λ level. present (on level)) _ fault e) [
      | inl f ↦ said words root address access Absent present fault (λ _. refl) f (λ apart. absurd (apart refl)) (λ apart. absurd (apart refl))
      | inr p ↦ elim (err_failed (lack_of access) table_on (λ level. permits access (on level)) (Ok (page_of words root address)) fault p.1) [
        | inl f ↦ said_of words root address access fault f (passed_all (λ level. present (on level)) p.0)
        | inr q ↦ absurd (cc q.1)
      ]
    ]

-- An access needs that an entry does not have the lack that it names.
needs : (access : Access) (lack : Lack) (entry : ℕ) → (lack ≡ Absent → ⊥) → lack ≡ lack_of access → permits access entry ≡ passes lack entry
needs Load lack entry apart e = absurd (apart e)
needs Store lack entry apart e = ap (λ l. passes l entry) (sym e)
needs Fetch lack entry apart e = ap (λ l. passes l entry) (sym e)

-- And a walk ends with each fault that says so.
ends_lacking : (words : List ℕ) (root address : ℕ) (access : Access) (fault : WalkFault) → EndsAt words root address access fault → (fault.lack ≡ Absent → ⊥) → walked words root address access ≡ Err fault
ends_lacking words root address access fault d apart =
    let on : Level → ℕ = entry_on words root address in
    let table_on : Level → ℕ = table_at words root address in
    let due : fault.lack ≡ lack_of access = d.needed apart in
    passed_next Absent table_on (λ level. present (on level)) _ (all_passed (λ level. present (on level)) (d.presence apart))
    ∙ failed_ends (lack_of access) table_on (λ level. permits access (on level)) _ fault
    (record { lack = due; table = d.table; fails = needs access fault.lack (on fault.level) apart due ∙ d.fails; above = λ level h. needs access fault.lack (on level) apart due ∙ d.above level h })

ends : (words : List ℕ) (root address : ℕ) (access : Access) (fault : WalkFault) (lack : Lack) → fault.lack ≡ lack → EndsAt words root address access fault → walked words root address access ≡ Err fault
ends words root address access fault Absent e d =
    failed_ends Absent (table_at words root address) (λ level. present (entry_on words root address level)) _ fault
    (record { lack = e; table = d.table; fails = rw e at d.fails; above = λ level h. rw e at (d.above level h) })
ends words root address access fault ReadOnly e d = ends_lacking words root address access fault d (λ h. cc)
ends words root address access fault NoExecute e d = ends_lacking words root address access fault d (λ h. cc)

pub faults_say : FaultsSay
faults_say = record { ended = ended; ends = λ words root address access fault. ends words root address access fault fault.lack refl }

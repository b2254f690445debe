-- What questions say of kinds and of entries.
use Rattle.std.proofs.Common.{◌≡◌, ℕ, ◌+◌, ◌-◌, ◌<◌, ◌≤◌, Bool, true, false, not, ◌&&◌, nat_le, nat_lt, ◌==◌, ⊎_elim, List, slice_get, Option, Some, None, refl, sym, ap, ◌∙◌, arith}
use Rattle.std.proofs.lemmas.Bool.{and_parts, cases_Bool, false≢true}
use Rattle.std.proofs.lemmas.Bool.Decides.{nat_tests}
use Rattle.frames.specs.Kinds.{can_be_taken, is_code, is_plain}
use Rattle.frames.specs.declared.kinds.FrameKind.{FrameKind}
use Rattle.frames.specs.declared.kinds.FrameKind.TheVariants as kind
use Rattle.frames.specs.declared.kinds.Level.{Level}
use Rattle.frames.specs.declared.kinds.Level.TheVariants.{One}
use Rattle.journal.proofs.Fillings.{one_not_free}
use Rattle.journal.specs.Pictures.{Picture, free_frames}
use Rattle.paging.specs.Entries.{entry_at, frame_of}
use Rattle.guard.specs.Scans.{NoneAnywhere}
use Rattle.guard.specs.declared.scans.Sought.TheVariants.{Executable, Present, Writable}
use Rattle.guarantee.proofs.Sounds.{Entries, NotAbove, NotExecutable, NotWritable, below}

-- What differs by a test is not the same.
pub differ : {A : Type 0} (test : A → Bool) (x y : A) → x ≡ y → test x ≡ true → test y ≡ false → ⊥
differ test x y e holds fails = false≢true (sym fails ∙ sym (ap test e) ∙ holds)

-- Of two tests that hold together each does.
pub first_of : (a b : Bool) → (a && b) ≡ true → a ≡ true
first_of a b e = (and_parts a b e).0

pub second_of : (a b : Bool) → (a && b) ≡ true → b ≡ true
second_of a b e = (and_parts a b e).1

pub both : (a b : Bool) → a ≡ true → b ≡ true → (a && b) ≡ true
both a b x y = (λ i. x i && y i)

pub not_false : (b : Bool) → b ≡ false → not b ≡ true
not_false b e = ap not e

-- Tests of a kind.
abbrev pub is_log : Option FrameKind → Bool
is_log (Some kind.Log) = true
is_log other = false

abbrev pub is_region : Option FrameKind → Bool
is_region (Some kind.Region) = true
is_region other = false

-- The level of the table that a frame is, if it is one.
abbrev pub level_in : Option FrameKind → Option Level
level_in (Some (kind.Table level)) = Some level
level_in other = None

-- The kind of a frame by what it was asked to be.
pub plain_is : (o : Option FrameKind) → is_plain o ≡ true → o ≡ Some kind.Plain
plain_is None e = absurd (false≢true e)
plain_is (Some kind.Plain) e = refl
plain_is (Some (kind.Table level)) e = absurd (false≢true e)
plain_is (Some kind.Region) e = absurd (false≢true e)
plain_is (Some kind.Code) e = absurd (false≢true e)
plain_is (Some kind.Log) e = absurd (false≢true e)
plain_is (Some kind.Reserve) e = absurd (false≢true e)

pub code_is : (o : Option FrameKind) → is_code o ≡ true → o ≡ Some kind.Code
code_is None e = absurd (false≢true e)
code_is (Some kind.Plain) e = absurd (false≢true e)
code_is (Some (kind.Table level)) e = absurd (false≢true e)
code_is (Some kind.Region) e = absurd (false≢true e)
code_is (Some kind.Code) e = refl
code_is (Some kind.Log) e = absurd (false≢true e)
code_is (Some kind.Reserve) e = absurd (false≢true e)

-- Free frames are there, and each can be taken.
pub free_each : (kinds : List FrameKind) (from n f : ℕ) → free_frames kinds from n ≡ true → from ≤ f → f < from + n → can_be_taken (slice_get kinds f) ≡ true
free_each kinds from n f free low high =
    let here : from + (f - from) ≡ f = omega (arith, low) in
    ⊎_elim
    (λ can. can)
    (λ cannot. absurd (false≢true (one_not_free kinds from (f - from) n (can_be_taken (slice_get kinds f)) (ap (λ g. can_be_taken (slice_get kinds g)) (sym here)) cannot (omega (arith, low, high)) ∙ free)))
    (cases_Bool (can_be_taken (slice_get kinds f)))

-- The only frame of one.
pub sole : (f g : ℕ) → f ≤ g → g < f + 1 → g ≡ f
sole f g low high = omega (arith, low, high)

-- An entry that is looked for is nowhere, so none that is there names a frame so.
pub no_writable : (p : Picture) (from n : ℕ) → NoneAnywhere p One (Writable from n) → NotWritable p from n
no_writable p from n none table index is low here write after before =
    let at : nat_le from (frame_of (entry_at p.words table index)) ≡ true = grind (arith, nat_tests, after) in
    let under : nat_lt (frame_of (entry_at p.words table index)) (from + n) ≡ true = grind (arith, nat_tests, before) in
    false≢true (sym (none table index is low) ∙ both _ _ here (both _ _ write (both _ _ at under)))

pub no_executable : (p : Picture) (frame : ℕ) → NoneAnywhere p One (Executable frame) → NotExecutable p frame 1
no_executable p frame none table index is low here execute after before =
    let same : (frame_of (entry_at p.words table index) == frame) ≡ true = grind (arith, nat_tests, after, before) in
    false≢true (sym (none table index is low) ∙ both _ _ here (both _ _ (not_false _ execute) same))

pub no_present : (p : Picture) (frame : ℕ) (lower : Level) → ((level : Level) → below level ≡ Some lower → NoneAnywhere p level (Present frame)) → slice_get p.kinds frame ≡ Some (kind.Table lower) → Entries p → NotAbove p frame 1
no_present p frame lower none own entries table index level under down is low here after before =
    let same : frame_of (entry_at p.words table index) ≡ frame = sole frame _ after before in
    let named : (frame_of (entry_at p.words table index) == frame) ≡ true = grind (arith, nat_tests, same) in
    let level_of_it : Some (kind.Table under) ≡ Some (kind.Table lower) = sym ((entries table index level is low here).table under down) ∙ ap (slice_get p.kinds) same ∙ own in
    false≢true (sym (none level (down ∙ ap level_in level_of_it) table index is low) ∙ both _ _ here named)

-- Nor does an entry name a frame so whose kind it could not name.
pub above_by_kind : (p : Picture) (from n : ℕ) → Entries p → ((f : ℕ) (level : Level) → from ≤ f → f < from + n → slice_get p.kinds f ≡ Some (kind.Table level) → ⊥) → NotAbove p from n
above_by_kind p from n entries no_table table index level lower down is low here after before = no_table _ lower after before ((entries table index level is low here).table lower down)

pub writable_by_kind : (p : Picture) (from n : ℕ) → Entries p → ((f : ℕ) → from ≤ f → f < from + n → slice_get p.kinds f ≡ Some kind.Plain → ⊥) → NotWritable p from n
writable_by_kind p from n entries no_plain table index is low here write after before = no_plain _ after before ((entries table index One is low here).plain refl write)

pub executable_by_kind : (p : Picture) (from n : ℕ) → Entries p → ((f : ℕ) → from ≤ f → f < from + n → slice_get p.kinds f ≡ Some kind.Code → ⊥) → NotExecutable p from n
executable_by_kind p from n entries no_code table index is low here execute after before = no_code _ after before ((entries table index One is low here).code refl execute)

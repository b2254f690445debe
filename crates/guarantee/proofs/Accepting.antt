-- What an accepted guard call is: a record that follows, fits and has room, and leaves sound what was sound.
use Rattle.std.specs.Prelude.{⊤}
use Rattle.std.proofs.Common.{◌≡◌, ℕ, ◌+◌, ◌*◌, ◌<◌, ◌≤◌, Bool, true, false, not, ◌||◌, ◌==◌, cond, nat_le, nat_lt, inl, inr, ⊎_elim, List, [], ◌∷◌, length, slice_get, Option, Some, None, is_none, refl, sym, subst, ap, ◌∙◌, arith}
use Rattle.std.proofs.Common.{set as put, slice_index}
use Rattle.std.proofs.lemmas.Bool.{cases_eq, false≢true}
use Rattle.std.proofs.lemmas.Bool.Decides.{nat_tests}
use Rattle.std.proofs.lemmas.List.{length-set}
use Rattle.std.proofs.lemmas.Option.{same_Some, slice_get_within}
use Rattle.std.specs.Option.{option_map}
use Rattle.frames.specs.Figures.{figure_questions}
use Rattle.frames.specs.Kinds.{level_number, level_of, can_be_taken, is_code, is_plain, is_table, keeps_words}
use Rattle.frames.specs.Regions.{ends_inside, frames_needed, is_live}
use Rattle.frames.specs.Questions.{Question, first_no}
use Rattle.frames.specs.declared.kinds.FrameKind.{FrameKind}
use Rattle.frames.specs.declared.kinds.FrameKind.TheVariants as kind
use Rattle.frames.specs.declared.kinds.Level.{Level}
use Rattle.frames.specs.declared.kinds.Level.TheVariants.{One, Two, Three, Four}
use Rattle.frames.specs.declared.regions.RegionState.{RegionState}
use Rattle.frames.specs.declared.regions.RegionState.TheVariants as region
use Rattle.journal.proofs.Inverses.{of_level}
use Rattle.journal.proofs.Packing.{length_packed}
use Rattle.journal.proofs.Staying.{length_put}
use Rattle.journal.specs.Bytes.{are_bytes, words_for}
use Rattle.journal.specs.Pictures.{Picture, apply, filled, follows, let_go, region_of, with_words, write_into}
use Rattle.journal.specs.Records.{Change, encode, fits, declared, retired, taken, written, released, accepted, unaccepted}
use Rattle.journal.specs.Records as change
use Rattle.paging.specs.Entries.{frame_of, no_execute, present, writable}
use Rattle.policy.specs.Policies.{Lawful, Meaning, permitted}
use Rattle.policy.specs.Spans.{is_span}
use Rattle.guard.proofs.Scanning.{none_anywhere}
use Rattle.guard.specs.Calls.{Request, declare, set, retire, take, write, release, accept, unaccept, load_register, load_root, load, store, fetch, drain}
use Rattle.guard.specs.Guarding.{Guarded}
use Rattle.guard.specs.Orders.{entry_questions, executes_code, is_governed, is_not_root, is_one_lower, kind_of, questions, unnamed_above, unnamed_at, writes_plain}
use Rattle.guard.specs.States.{State}
use Rattle.guard.specs.Steps.{change_for, is_accepted}
use Rattle.guard.specs.declared.scans.Sought.TheVariants.{Executable, Present, Writable}
use Rattle.guarantee.specs.Guarantee.{bytes_of_write}
use Rattle.guarantee.proofs.Frames.{is_log, both, code_is, differ, first_of, free_each, plain_is, second_of, sole}
use Rattle.guarantee.proofs.Keeping.{accept_sound, declare_sound, lies_in, one_there, release_sound, release_turned, retire_sound, set_sound, take_sound, turned_alone, turned_zeroed, zero_not_there, zero_there, unaccept_sound, write_sound, writes_outside}
use Rattle.guarantee.proofs.Places.{Outside, SameFrame, bytes_alike, inside_or_outside, set_in, set_out}
use Rattle.guarantee.proofs.Sounds.{Names, Sound, Turned, below}

abbrev is_one : Level → Bool
is_one One = true
is_one other = false

-- Each question of a list has a yes.
abbrev pub Yes : List Question → Type 0
Yes [] = ⊤
Yes (q ∷ qs) = (q.1 ≡ true) × Yes qs

pub all_yes : (qs : List Question) → is_none (first_no qs) ≡ true → Yes qs
all_yes [] none = tt
all_yes (q ∷ qs) none = by (q.1) refl none (all_yes qs)
  where
    by : (b : Bool) → q.1 ≡ b → is_none (cond b (first_no qs) (Some q.0)) ≡ true → (is_none (first_no qs) ≡ true → Yes qs) → (q.1 ≡ true) × Yes qs
    by true e is rest = (e, rest is)
    by false e is rest = absurd (false≢true is)

-- Of lists that one condition chooses from.
chosen : (b : Bool) (xs ys : List Question) {A : Type 0} → Yes (cond b xs ys) → (b ≡ true → Yes xs → A) → (b ≡ false → Yes ys → A) → A
chosen true xs ys y f g = f refl y
chosen false xs ys y f g = g refl y

-- What is so of a machine that was made on good figures, by what its guard keeps and its root.
pub record KeptBy (made : Bool) (g : Guarded) (root : Option ℕ) : Type 0 where
  pub good : made ≡ true
  pub figures : first_no (figure_questions (length g.picture.kinds) g.first_log g.logs) ≡ None
  pub few : length g.picture.kinds ≤ 256
  pub held : g.held ≤ 512 * g.logs
  pub sound : Sound g.picture root g.first_log g.logs

abbrev pub Kept : {P : Type 0} → State P → Type 0
Kept s = KeptBy s.sound s.guarded s.root

-- Words agree with those of a picture in all frames that are replayed.
abbrev pub Agree : List ℕ → Picture → Type 0
Agree ws p = (f : ℕ) → keeps_words (slice_get p.kinds f) ≡ true → SameFrame ws p.words f

abbrev pub is_write : Change → Bool
is_write (written r offset bytes) = true
is_write other = false

-- A change follows, fits, has room and keeps what is sound; and it turns some frames alone.
pub record Enacts {P : Type 0} (s : State P) (c : Change) : Type 0 where
  pub follows : follows s.guarded.picture c ≡ true
  pub fits : fits c ≡ true
  pub room : s.guarded.held + length (encode c) ≤ 512 * s.guarded.logs
  pub sound : Sound (apply c s.guarded.picture) s.root s.guarded.first_log s.guarded.logs
  pub from : ℕ
  pub n : ℕ
  pub k : FrameKind
  pub turned : Turned s.guarded.picture (apply c s.guarded.picture) from n k
  pub no_log : Some k ≡ Some kind.Log → ⊥
  -- Whatever the words are: where they agree in all frames that are replayed, they do still.
  pub alike : (ws : List ℕ) → length ws ≡ length s.guarded.picture.words → Agree ws s.guarded.picture → Agree (apply c (with_words s.guarded.picture ws)).words (apply c s.guarded.picture)
  -- Only an accept makes code; and only a write changes a word of a region.
  pub codes : Some k ≡ Some kind.Code → (f : ℕ) → from ≤ f → f < from + n → c ≡ accepted f
  pub regions : is_write c ≡ false → (f : ℕ) → from ≤ f → f < from + n → slice_get s.guarded.picture.kinds f ≡ Some kind.Region → SameFrame (apply c s.guarded.picture).words s.guarded.picture.words f

-- So it is where words are zeroed in frames that are turned, or are left alone, or one of a table's is set, or bytes are put.
before_turn : (p m : Picture) (from n : ℕ) (k : FrameKind) → Turned p m from n k → (f : ℕ) → Outside from n f → keeps_words (slice_get m.kinds f) ≡ true → keeps_words (slice_get p.kinds f) ≡ true
before_turn p m from n k turned f outside is = ap keeps_words (sym (turned.others f outside)) ∙ is

zeroed_alike : (p m : Picture) (from n : ℕ) (k : FrameKind) (ws : List ℕ) → Turned p m from n k → Agree ws p → (f : ℕ) → keeps_words (slice_get m.kinds f) ≡ true → SameFrame (filled ws (512 * from) (512 * n) 0) (filled p.words (512 * from) (512 * n) 0) f
zeroed_alike p m from n k ws turned agree f is index low = ⊎_elim
    (λ inside. zero_there ws from n f index inside.0 inside.1 low ∙ sym (zero_there p.words from n f index inside.0 inside.1 low))
    (λ outside. zero_not_there ws from n f index outside low ∙ agree f (before_turn p m from n k turned f outside is) index low ∙ sym (zero_not_there p.words from n f index outside low))
    (inside_or_outside from n f)

left_alike : (p m : Picture) (from n : ℕ) (k : FrameKind) (ws : List ℕ) → Turned p m from n k → Agree ws p → ((f : ℕ) → from ≤ f → f < from + n → keeps_words (Some k) ≡ true → keeps_words (slice_get p.kinds f) ≡ true) → (f : ℕ) → keeps_words (slice_get m.kinds f) ≡ true → SameFrame ws p.words f
left_alike p m from n k ws turned agree was f is = ⊎_elim
    (λ inside. agree f (was f inside.0 inside.1 (ap keeps_words (sym (turned.turns f inside.0 inside.1)) ∙ is)))
    (λ outside. agree f (before_turn p m from n k turned f outside is))
    (inside_or_outside from n f)

set_alike : (p : Picture) (ws : List ℕ) (place entry : ℕ) → length ws ≡ length p.words → Agree ws p → place < length p.words → (f : ℕ) → keeps_words (slice_get p.kinds f) ≡ true → SameFrame (put ws place entry) (put p.words place entry) f
set_alike p ws place entry long agree room f is index low = ⊎_elim
    (λ same. ap (slice_index (put ws place entry)) same ∙ set_in ws place entry (omega (arith, long, room)) ∙ sym (ap (slice_index (put p.words place entry)) same ∙ set_in p.words place entry room))
    (λ apart. set_out ws place entry (512 * f + index) apart ∙ agree f is index low ∙ sym (set_out p.words place entry (512 * f + index) apart))
    (cases_eq (512 * f + index) place)

-- Numbers of frames and of room.
less : {P : Type 0} (s : State P) (f : ℕ) → Kept s → nat_lt f (length s.guarded.picture.kinds) ≡ true → nat_le f 255 ≡ true
less s f kept is = let few = kept.few in let low : f < length s.guarded.picture.kinds = grind (arith, nat_tests, is) in grind (arith, nat_tests, few, low)

roomy : (held logs n m : ℕ) → nat_le (held + n) (512 * logs) ≡ true → n ≡ m → held + m ≤ 512 * logs
roomy held logs n m is same = let fits : held + n ≤ 512 * logs = grind (arith, nat_tests, is) in omega (arith, fits, same)

-- A single frame of a kind that no region has, turned to another.
single_enacts : {P : Type 0} (s : State P) (c : Change) (frame : ℕ) (k : FrameKind) (o : FrameKind) → Kept s → slice_get s.guarded.picture.kinds frame ≡ Some o → (Some o ≡ Some kind.Region → ⊥)
    → follows s.guarded.picture c ≡ true → fits c ≡ true → nat_le (s.guarded.held + length (encode c)) (512 * s.guarded.logs) ≡ true
    → Sound (apply c s.guarded.picture) s.root s.guarded.first_log s.guarded.logs → Turned s.guarded.picture (apply c s.guarded.picture) frame 1 k
    → (Some k ≡ Some kind.Log → ⊥)
    → ((ws : List ℕ) → length ws ≡ length s.guarded.picture.words → Agree ws s.guarded.picture → Agree (apply c (with_words s.guarded.picture ws)).words (apply c s.guarded.picture))
    → (Some k ≡ Some kind.Code → c ≡ accepted frame) → Enacts s c
single_enacts s c frame k o kept is other follow fit room sound turned no_log alike codes = record {
  no_log = no_log;
  alike = alike;
  follows = follow;
  fits = fit;
  room = roomy s.guarded.held s.guarded.logs (length (encode c)) (length (encode c)) room refl;
  sound = sound;
  from = frame;
  n = 1;
  k = k;
  turned = turned;
  codes = λ e f low high. codes e ∙ ap accepted (sym (sole frame f low high));
  regions = λ w f low high e. absurd (other (sym is ∙ ap (slice_get s.guarded.picture.kinds) (sym (sole frame f low high)) ∙ e));
}

declare_enacts : {P : Type 0} (means : Meaning P) (s : State P) (frame level : ℕ) (l : Level) → Kept s → Yes (questions means (declare frame level) s) → Enacts s (declared frame l)
declare_enacts means s frame level l kept y = single_enacts s (declared frame l) frame (kind.Table l) kind.Plain kept plain (λ e. differ is_plain _ _ e refl refl)
    y.1.1.1.0 (less s frame kept y.1.0) y.1.1.1.1.1.0
    (declare_sound s.guarded.picture s.root s.guarded.first_log s.guarded.logs frame l kept.sound plain ((none_anywhere s.guarded.picture One (Writable frame 1)).0 y.1.1.1.1.0))
    (turned_zeroed s.guarded.picture s.guarded.picture.regions frame 1 (kind.Table l) (one_there s.guarded.picture frame _ plain))
    (λ e. differ is_log _ _ (sym e) refl refl)
    (λ ws long agree. zeroed_alike s.guarded.picture _ frame 1 (kind.Table l) ws (turned_zeroed s.guarded.picture s.guarded.picture.regions frame 1 (kind.Table l) (one_there s.guarded.picture frame _ plain)) agree)
    (λ e. absurd (differ is_code _ _ (sym e) refl refl))
  where
    plain : kind_of s.guarded frame ≡ Some kind.Plain
    plain = plain_is (kind_of s.guarded frame) y.1.1.1.0

accept_enacts : {P : Type 0} (means : Meaning P) (s : State P) (frame : ℕ) → Kept s → Yes (questions means (accept frame) s) → Enacts s (accepted frame)
accept_enacts means s frame kept y = single_enacts s (accepted frame) frame kind.Code kind.Plain kept plain (λ e. differ is_plain _ _ e refl refl)
    y.1.1.0 (less s frame kept y.1.0) y.1.1.1.1.1.0
    (accept_sound s.guarded.picture s.root s.guarded.first_log s.guarded.logs frame kept.sound plain ((none_anywhere s.guarded.picture One (Writable frame 1)).0 y.1.1.1.0) y.1.1.1.1.0)
    (turned_alone s.guarded.picture s.guarded.picture.regions frame 1 kind.Code (one_there s.guarded.picture frame _ plain))
    (λ e. differ is_log _ _ (sym e) refl refl)
    (λ ws long agree. left_alike s.guarded.picture _ frame 1 kind.Code ws (turned_alone s.guarded.picture s.guarded.picture.regions frame 1 kind.Code (one_there s.guarded.picture frame _ plain)) agree (λ f low high e. absurd (false≢true e)))
    (λ e. refl)
  where
    plain : kind_of s.guarded frame ≡ Some kind.Plain
    plain = plain_is (kind_of s.guarded frame) y.1.1.0

unaccept_enacts : {P : Type 0} (means : Meaning P) (s : State P) (frame : ℕ) → Kept s → Yes (questions means (unaccept frame) s) → Enacts s (unaccepted frame)
unaccept_enacts means s frame kept y = single_enacts s (unaccepted frame) frame kind.Plain kind.Code kept code (λ e. differ is_code _ _ e refl refl)
    y.1.1.0 (less s frame kept y.1.0) y.1.1.1.1.0
    (unaccept_sound s.guarded.picture s.root s.guarded.first_log s.guarded.logs frame kept.sound code ((none_anywhere s.guarded.picture One (Executable frame)).0 y.1.1.1.0))
    (turned_alone s.guarded.picture s.guarded.picture.regions frame 1 kind.Plain (one_there s.guarded.picture frame _ code))
    (λ e. differ is_log _ _ (sym e) refl refl)
    (λ ws long agree. left_alike s.guarded.picture _ frame 1 kind.Plain ws (turned_alone s.guarded.picture s.guarded.picture.regions frame 1 kind.Plain (one_there s.guarded.picture frame _ code)) agree (λ f low high e. absurd (false≢true e)))
    (λ e. absurd (differ is_plain _ _ e refl refl))
  where
    code : kind_of s.guarded frame ≡ Some kind.Code
    code = code_is (kind_of s.guarded frame) y.1.1.0

-- The level of a table, and the tables of the next higher level.
record TableOf (o : Option FrameKind) : Type 0 where
  level : Level
  is : o ≡ Some (kind.Table level)

table_is : (o : Option FrameKind) → is_table o ≡ true → TableOf o
table_is None e = absurd (false≢true e)
table_is (Some kind.Plain) e = absurd (false≢true e)
table_is (Some (kind.Table level)) e = record { level = level; is = refl }
table_is (Some kind.Region) e = absurd (false≢true e)
table_is (Some kind.Code) e = absurd (false≢true e)
table_is (Some kind.Log) e = absurd (false≢true e)
table_is (Some kind.Reserve) e = absurd (false≢true e)

next : Option Level → Option Level
next (Some level) = level_of (level_number level + 1)
next None = None

above_is : (above level : Level) → below above ≡ Some level → level_of (level_number level + 1) ≡ Some above
unfolding next
above_is Four level e = sym (ap next e)
above_is Three level e = sym (ap next e)
above_is Two level e = sym (ap next e)
above_is One level e = absurd (differ is_none _ _ e refl refl)

retire_enacts : {P : Type 0} (means : Meaning P) (s : State P) (frame : ℕ) → Kept s → Yes (questions means (retire frame) s) → Enacts s (retired frame)
retire_enacts means s frame kept y = single_enacts s (retired frame) frame kind.Plain (kind.Table table.level) kept table.is (λ e. differ is_table _ _ e refl refl)
    y.1.1.0 (less s frame kept y.1.0) y.1.1.1.1.1.0
    (retire_sound s.guarded.picture s.root s.guarded.first_log s.guarded.logs frame table.level kept.sound table.is (not_the_root s.root y.1.1.1.0)
    (λ above e. (none_anywhere s.guarded.picture above (Present frame)).0 (subst (λ o. unnamed_at s.guarded o frame ≡ true) (above_is above table.level e) (subst (λ o. unnamed_above s.guarded o frame ≡ true) table.is y.1.1.1.1.0))))
    (turned_alone s.guarded.picture s.guarded.picture.regions frame 1 kind.Plain (one_there s.guarded.picture frame _ table.is))
    (λ e. differ is_log _ _ (sym e) refl refl)
    (λ ws long agree. left_alike s.guarded.picture _ frame 1 kind.Plain ws (turned_alone s.guarded.picture s.guarded.picture.regions frame 1 kind.Plain (one_there s.guarded.picture frame _ table.is)) agree (λ f low high e. absurd (false≢true e)))
    (λ e. absurd (differ is_plain _ _ e refl refl))
  where
    table : TableOf (kind_of s.guarded frame)
    table = table_is (kind_of s.guarded frame) y.1.1.0

    not_the_root : (root : Option ℕ) → is_not_root root frame ≡ true → root ≡ Some frame → ⊥
    not_the_root root is e = let other : not (frame == frame) ≡ true = ap (λ o. is_not_root o frame) (sym e) ∙ is in grind (arith, nat_tests, other)

-- What the end of a set's order says: what a present entry names, and that there is room.
record Entered (g : Guarded) (level : Level) (entry : ℕ) : Type 0 where
  names : present entry ≡ true → Names g.picture.kinds level entry
  room : nat_le (g.held + 2) (512 * g.logs) ≡ true

or_else : (a b : Bool) → (a || b) ≡ true → a ≡ false → b ≡ true
or_else true b e f = absurd (false≢true (sym f))
or_else false b e f = e

writes : (g : Guarded) (entry : ℕ) → writes_plain g entry ≡ true → writable entry ≡ true → kind_of g (frame_of entry) ≡ Some kind.Plain
writes g entry is w = plain_is _ (or_else (not (writable entry)) _ is (ap not w))

executes : (g : Guarded) (entry : ℕ) → executes_code g entry ≡ true → no_execute entry ≡ false → kind_of g (frame_of entry) ≡ Some kind.Code
executes g entry is x = code_is _ (or_else (no_execute entry) _ is x)

one_lower : (level : Level) (o : Option FrameKind) (lower : Level) → is_one_lower (Some (kind.Table level)) o ≡ true → below level ≡ Some lower → o ≡ Some (kind.Table lower)
one_lower level None lower e down = absurd (false≢true e)
one_lower level (Some kind.Plain) lower e down = absurd (false≢true e)
one_lower level (Some kind.Region) lower e down = absurd (false≢true e)
one_lower level (Some kind.Code) lower e down = absurd (false≢true e)
one_lower level (Some kind.Log) lower e down = absurd (false≢true e)
one_lower level (Some kind.Reserve) lower e down = absurd (false≢true e)
one_lower level (Some (kind.Table l)) lower e down = ap (λ o. Some (kind.Table o)) (same_Some l lower (sym (of_level l) ∙ ap level_of number ∙ of_level lower))
  where
    number : level_number l ≡ level_number lower
    number =
        let up : level_of (level_number lower + 1) ≡ Some level = above_is level lower down in
        let own : level_number lower + 1 ≡ level_number level = numbers lower level up in
        let other : level_number l + 1 ≡ level_number level = grind (arith, nat_tests, e) in
        omega (arith, own, other)
      where
        number_of : Option Level → ℕ
        number_of (Some m) = level_number m
        number_of None = 0

        numbers : (low high : Level) → level_of (level_number low + 1) ≡ Some high → level_number low + 1 ≡ level_number high
        numbers One high u = ap number_of u
        numbers Two high u = ap number_of u
        numbers Three high u = ap number_of u
        numbers Four high u = absurd (differ is_none _ _ u refl refl)

entered : (g : Guarded) (level : Level) (entry : ℕ) → Yes (entry_questions g (Some (kind.Table level)) entry) → Entered g level entry
entered g One entry y = chosen (present entry) _ _ y
    (λ here a. record {
      names = λ p. record { table = λ lower e. absurd (differ is_none _ _ e refl refl); plain = λ one w. writes g entry a.1.0 w; code = λ one x. executes g entry a.1.1.0 x };
      room = a.1.1.1.0;
    })
    (λ gone b. record { names = λ p. absurd (false≢true (sym gone ∙ p)); room = b.0 })
entered g Two entry y = chosen (present entry) _ _ y
    (λ here a. record { names = λ p. record { table = λ lower e. one_lower Two _ lower a.1.1.0 e; plain = λ one. absurd (differ is_one One Two (sym one) refl refl); code = λ one. absurd (differ is_one One Two (sym one) refl refl) }; room = a.1.1.1.0 })
    (λ gone b. record { names = λ p. absurd (false≢true (sym gone ∙ p)); room = b.0 })
entered g Three entry y = chosen (present entry) _ _ y
    (λ here a. record { names = λ p. record { table = λ lower e. one_lower Three _ lower a.1.1.0 e; plain = λ one. absurd (differ is_one One Three (sym one) refl refl); code = λ one. absurd (differ is_one One Three (sym one) refl refl) }; room = a.1.1.1.0 })
    (λ gone b. record { names = λ p. absurd (false≢true (sym gone ∙ p)); room = b.0 })
entered g Four entry y = chosen (present entry) _ _ y
    (λ here a. record { names = λ p. record { table = λ lower e. one_lower Four _ lower a.1.1.0 e; plain = λ one. absurd (differ is_one One Four (sym one) refl refl); code = λ one. absurd (differ is_one One Four (sym one) refl refl) }; room = a.1.1.1.0 })
    (λ gone b. record { names = λ p. absurd (false≢true (sym gone ∙ p)); room = b.0 })

set_enacts : {P : Type 0} (means : Meaning P) (s : State P) (table index entry : ℕ) → Kept s → Yes (questions means (set table index entry) s) → Enacts s (change.set table index entry)
set_enacts means s table index entry kept y = record {
  follows = y.1.1.0;
  fits = both _ _ (less s table kept y.1.0) (let low = under in grind (arith, nat_tests, low));
  room = roomy s.guarded.held s.guarded.logs 2 2 ends.room refl;
  sound = set_sound s.guarded.picture s.root s.guarded.first_log s.guarded.logs table index entry its.level kept.sound its.is under ends.names;
  from = table;
  n = 1;
  k = kind.Table its.level;
  turned = record {
    words = length-set s.guarded.picture.words (512 * table + index) entry;
    kinds = refl;
    turns = λ f low high. ap (slice_get s.guarded.picture.kinds) (sole table f low high) ∙ its.is;
    others = λ f outside. refl;
    same = λ f outside i low. set_out s.guarded.picture.words (512 * table + index) entry (512 * f + i) (elsewhere f i low outside);
  };
  no_log = λ e. differ is_log _ _ (sym e) refl refl;
  alike = λ ws long agree. set_alike s.guarded.picture ws (512 * table + index) entry long agree room;
  codes = λ e. absurd (differ is_code _ _ (sym e) refl refl);
  regions = λ w f low high e. absurd (differ is_table _ _ (sym its.is ∙ ap (slice_get s.guarded.picture.kinds) (sym (sole table f low high)) ∙ e) refl refl);
}
  where
    its : TableOf (kind_of s.guarded table)
    its = table_is (kind_of s.guarded table) y.1.1.0

    under : index < 512
    under = let is = y.1.1.1.0 in grind (arith, nat_tests, is)

    ends : Entered s.guarded its.level entry
    ends = entered s.guarded its.level entry (subst (λ o. Yes (entry_questions s.guarded o entry)) its.is y.1.1.1.1)

    room : 512 * table + index < length s.guarded.picture.words
    room = let there : table < length s.guarded.picture.kinds = slice_get_within s.guarded.picture.kinds table _ its.is in let low = under in let whole = kept.sound.whole in omega (arith, there, low, whole)

    elsewhere : (f i : ℕ) → i < 512 → Outside table 1 f → 512 * f + i ≡ 512 * table + index → ⊥
    elsewhere f i low (inl before) e = let u = under in omega (arith, low, before, e, u)
    elsewhere f i low (inr behind) e = let u = under in omega (arith, low, behind, e, u)

-- A live region.
record LiveRegion (o : Option RegionState) : Type 0 where
  first : ℕ
  size : ℕ
  is : o ≡ Some (region.Live first size)

live_is : (o : Option RegionState) → is_live o ≡ true → LiveRegion o
live_is None e = absurd (false≢true e)
live_is (Some region.Untaken) e = absurd (false≢true e)
live_is (Some (region.Live first size)) e = record { first = first; size = size; is = refl }
live_is (Some region.Released) e = absurd (false≢true e)

-- A write to which a policy says yes begins below 65,536.
span_low : (opens : ℕ → Bool) (offset n : ℕ) → permitted opens offset n ≡ true → nat_lt offset 65536 ≡ true
unfolding permitted
span_low opens offset n allowed = let is : is_span offset n ≡ true = first_of _ _ allowed in grind (arith, nat_tests, is)

-- A region that a policy governs is one of sixteen.
governed : {P : Type 0} (means : Meaning P) (policy : P) (r : ℕ) → Lawful means → is_governed means policy r ≡ true → nat_le r 15 ≡ true
governed means policy r laws is = let few = laws.few policy in let low : r < means.count policy = grind (arith, nat_tests, is) in grind (arith, nat_tests, few, low)

take_enacts : {P : Type 0} (means : Meaning P) (s : State P) (r first n : ℕ) → Lawful means → Kept s → Yes (questions means (take r first n) s) → Enacts s (taken r first n)
take_enacts means s r first n laws kept y = record {
  follows = both _ _ y.1.1.0 y.1.1.1.1.1.0;
  fits = both _ _ (governed means s.policy r laws y.1.0) (both _ _ low_first (let is = y.1.1.1.0 in grind (arith, nat_tests, is)));
  room = roomy s.guarded.held s.guarded.logs 1 1 y.1.1.1.1.1.1.1.0 refl;
  sound = take_sound s.guarded.picture s.root s.guarded.first_log s.guarded.logs r first n kept.sound there free ((none_anywhere s.guarded.picture One (Writable first (frames_needed n))).0 y.1.1.1.1.1.1.0);
  from = first;
  n = frames_needed n;
  k = kind.Region;
  turned = turned_zeroed s.guarded.picture _ first (frames_needed n) kind.Region there;
  no_log = λ e. differ is_log _ _ (sym e) refl refl;
  alike = λ ws long agree. zeroed_alike s.guarded.picture _ first (frames_needed n) kind.Region ws (turned_zeroed s.guarded.picture s.guarded.picture.regions first (frames_needed n) kind.Region there) agree;
  codes = λ e. absurd (differ is_code _ _ (sym e) refl refl);
  regions = λ w f low high e. absurd (false≢true (sym (ap can_be_taken e) ∙ free f low high));
}
  where
    there : first + frames_needed n ≤ length s.guarded.picture.kinds
    there = let is = y.1.1.1.1.0 in grind (arith, nat_tests, is)

    free : (f : ℕ) → first ≤ f → f < first + frames_needed n → can_be_taken (slice_get s.guarded.picture.kinds f) ≡ true
    free f low high = free_each s.guarded.picture.kinds first (frames_needed n) f y.1.1.1.1.1.0 low high

    low_first : nat_le first 255 ≡ true
    low_first =
        let is = y.1.1.1.0 in
        let some : 1 ≤ n = grind (arith, nat_tests, is) in
        let more : 1 ≤ frames_needed n = omega (arith, some) in
        let all = there in
        let few = kept.few in
        let low : first ≤ 255 = omega (arith, more, all, few) in
        grind (arith, nat_tests, low)

release_enacts : {P : Type 0} (means : Meaning P) (s : State P) (r : ℕ) → Lawful means → Kept s → Yes (questions means (release r) s) → Enacts s (released r)
release_enacts means s r laws kept y = record {
  follows = y.1.1.0;
  fits = governed means s.policy r laws y.1.0;
  room = roomy s.guarded.held s.guarded.logs 1 1 y.1.1.1.0 refl;
  sound = subst (λ o. Sound (let_go p o r) s.root s.guarded.first_log s.guarded.logs) (sym its.is) (release_sound p s.root s.guarded.first_log s.guarded.logs r its.first its.size kept.sound its.is);
  from = its.first;
  n = frames_needed its.size;
  k = kind.Reserve;
  turned = subst (λ o. Turned p (let_go p o r) its.first (frames_needed its.size) kind.Reserve) (sym its.is) (release_turned p r its.first its.size kept.sound.regions its.is);
  no_log = λ e. differ is_log _ _ (sym e) refl refl;
  alike = subst (λ o. (ws : List ℕ) → length ws ≡ length p.words → Agree ws p → Agree (let_go (with_words p ws) o r).words (let_go p o r)) (sym its.is)
      (λ ws long agree. left_alike p _ its.first (frames_needed its.size) kind.Reserve ws (release_turned p r its.first its.size kept.sound.regions its.is) agree (λ f low high e. ap keeps_words (lies_in p r its.first its.size f kept.sound.regions its.is low high)));
  codes = λ e. absurd (differ is_code _ _ (sym e) refl refl);
  regions = λ w f low high e. subst (λ o. SameFrame (let_go p o r).words p.words f) (sym its.is) (λ index under. refl);
}
  where
    p : Picture
    p = s.guarded.picture

    its : LiveRegion (region_of p r)
    its = live_is (region_of p r) y.1.1.0

write_enacts : {P : Type 0} (means : Meaning P) (s : State P) (r offset : ℕ) (bytes : List ℕ) → Lawful means → Kept s → are_bytes bytes ≡ true → Yes (questions means (write r offset bytes) s) → Enacts s (written r offset bytes)
write_enacts means s r offset bytes laws kept small y = record {
  follows = y.1.1.1.1.0;
  fits = both _ _ (governed means s.policy r laws y.1.0) (both _ _ (span_low (means.opens s.policy r) offset (length bytes) y.1.1.1.1.1.0) (both _ _ (first_of _ _ y.1.1.1.0) (both _ _ (second_of _ _ y.1.1.1.0) small)));
  room = roomy s.guarded.held s.guarded.logs (2 + words_for (length bytes)) (length (encode (written r offset bytes))) y.1.1.1.1.1.1.0 (let long = length_packed bytes in omega (arith, long));
  sound = subst (λ o. Sound (write_into p o offset bytes) s.root s.guarded.first_log s.guarded.logs) (sym its.is) (write_sound p s.root s.guarded.first_log s.guarded.logs r its.first its.size offset bytes kept.sound its.is ends);
  from = its.first;
  n = frames_needed its.size;
  k = kind.Region;
  turned = subst (λ o. Turned p (write_into p o offset bytes) its.first (frames_needed its.size) kind.Region) (sym its.is) (record {
    words = length_put p.words (4096 * its.first + offset) bytes;
    kinds = refl;
    turns = λ f low high. lies_in p r its.first its.size f kept.sound.regions its.is low high;
    others = λ f outside. refl;
    same = λ f outside. writes_outside p.words its.first its.size offset bytes ends f outside;
  });
  no_log = λ e. differ is_log _ _ (sym e) refl refl;
  alike = subst (λ o. (ws : List ℕ) → length ws ≡ length p.words → Agree ws p → Agree (write_into (with_words p ws) o offset bytes).words (write_into p o offset bytes)) (sym its.is)
      (λ ws long agree f e index low. bytes_alike ws p.words (4096 * its.first + offset) bytes (512 * f + index) long (agree f e index low));
  codes = λ e. absurd (differ is_code _ _ (sym e) refl refl);
  regions = λ w. absurd (false≢true (sym w));
}
  where
    p : Picture
    p = s.guarded.picture

    its : LiveRegion (region_of p r)
    its = live_is (region_of p r) y.1.1.0

    ends : offset + length bytes ≤ its.size
    ends = let is : nat_le (offset + length bytes) its.size ≡ true = subst (λ o. ends_inside o offset (length bytes) ≡ true) its.is y.1.1.1.1.0 in grind (arith, nat_tests, is)

-- Every accepted guard call is such a record.
enacted : {P : Type 0} (means : Meaning P) (q : Request) (c : Change) (s : State P) → Lawful means → Kept s → are_bytes (bytes_of_write q) ≡ true → Yes (questions means q s) → change_for q ≡ Some c → Enacts s c
enacted means (declare frame level) c s laws kept small y is = by (level_of level) refl is
  where
    by : (o : Option Level) → level_of level ≡ o → option_map (declared frame) o ≡ Some c → Enacts s c
    by None e none = absurd (differ is_none _ _ none refl refl)
    by (Some l) e some = subst (Enacts s) (same_Some _ c some) (declare_enacts means s frame level l kept y)
enacted means (set table index entry) c s laws kept small y is = subst (Enacts s) (same_Some _ c is) (set_enacts means s table index entry kept y)
enacted means (retire frame) c s laws kept small y is = subst (Enacts s) (same_Some _ c is) (retire_enacts means s frame kept y)
enacted means (take r first n) c s laws kept small y is = subst (Enacts s) (same_Some _ c is) (take_enacts means s r first n laws kept y)
enacted means (write r offset bytes) c s laws kept small y is = subst (Enacts s) (same_Some _ c is) (write_enacts means s r offset bytes laws kept small y)
enacted means (release r) c s laws kept small y is = subst (Enacts s) (same_Some _ c is) (release_enacts means s r laws kept y)
enacted means (accept frame) c s laws kept small y is = subst (Enacts s) (same_Some _ c is) (accept_enacts means s frame kept y)
enacted means (unaccept frame) c s laws kept small y is = subst (Enacts s) (same_Some _ c is) (unaccept_enacts means s frame kept y)
enacted means (load_register register value) c s laws kept small y is = absurd (differ is_none _ _ is refl refl)
enacted means (load_root value) c s laws kept small y is = absurd (differ is_none _ _ is refl refl)
enacted means (load address) c s laws kept small y is = absurd (differ is_none _ _ is refl refl)
enacted means (store address value) c s laws kept small y is = absurd (differ is_none _ _ is refl refl)
enacted means (fetch address) c s laws kept small y is = absurd (differ is_none _ _ is refl refl)
enacted means (drain room) c s laws kept small y is = absurd (differ is_none _ _ is refl refl)

pub enacted_by : {P : Type 0} (means : Meaning P) (q : Request) (c : Change) (s : State P) → Lawful means → Kept s → are_bytes (bytes_of_write q) ≡ true → is_accepted means q s ≡ true → change_for q ≡ Some c → Enacts s c
enacted_by means q c s laws kept small ok is = enacted means q c s laws kept small (all_yes (questions means q s) ok) is

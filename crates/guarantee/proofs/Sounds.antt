-- What is so of every machine that was made on good figures, whatever was called: what the entries of its tables name, what its root is, which frames are
-- its log, its regions and its code.
use Rattle.std.proofs.Common.{◌≡◌, ℕ, ◌+◌, ◌*◌, ◌<◌, ◌≤◌, true, false, ⊎_elim, List, length, slice_get, Option, Some, None, sym, subst, ap, ◌∙◌}
use Rattle.std.proofs.lemmas.Bool.{false≢true}
use Rattle.frames.specs.Regions.{frames_needed}
use Rattle.frames.specs.declared.kinds.FrameKind.{FrameKind}
use Rattle.frames.specs.declared.kinds.FrameKind.TheVariants as kind
use Rattle.frames.specs.declared.kinds.Level.{Level}
use Rattle.frames.specs.declared.kinds.Level.TheVariants.{One, Two, Three, Four}
use Rattle.frames.specs.declared.regions.RegionState.TheVariants.{Live}
use Rattle.journal.specs.Pictures.{Picture, region_of, with_words}
use Rattle.paging.specs.Entries.{entry_at, frame_of, no_execute, present, writable}
use Rattle.guard.specs.Scans.{scanned}
use Rattle.guarantee.proofs.Places.{Outside, SameFrame, inside_or_outside, scan_same}

-- The level of the tables that entries of a table name; those of level 1 name no tables.
abbrev pub below : Level → Option Level
below Four = Some Three
below Three = Some Two
below Two = Some One
below One = None

-- What a present entry of a table of that level names: a table one level lower; or, at level 1, a plain frame where it is writable, and a code frame where it
-- is executable.
pub record Names (kinds : List FrameKind) (level : Level) (entry : ℕ) : Type 0 where
  pub table : (lower : Level) → below level ≡ Some lower → slice_get kinds (frame_of entry) ≡ Some (kind.Table lower)
  pub plain : level ≡ One → writable entry ≡ true → slice_get kinds (frame_of entry) ≡ Some kind.Plain
  pub code : level ≡ One → no_execute entry ≡ false → slice_get kinds (frame_of entry) ≡ Some kind.Code

-- Present entries of all tables do.
abbrev pub Entries : Picture → Type 0
Entries p = (table index : ℕ) (level : Level) → slice_get p.kinds table ≡ Some (kind.Table level) → index < 512 → present (entry_at p.words table index) ≡ true → Names p.kinds level (entry_at p.words table index)

-- The frames of live regions are a region's, and no two of them share one.
pub record Regions (p : Picture) : Type 0 where
  pub lived : (r first size : ℕ) → region_of p r ≡ Some (Live first size) → (k : ℕ) → k < frames_needed size → slice_get p.kinds (first + k) ≡ Some kind.Region
  pub apart : (r first size q from length : ℕ) → (r ≡ q → ⊥) → region_of p r ≡ Some (Live first size) → region_of p q ≡ Some (Live from length) → (k j : ℕ) → k < frames_needed size → j < frames_needed length → first + k ≡ from + j → ⊥

-- What is so of a machine, by its picture, its root and its log frames.
pub record Sound (p : Picture) (root : Option ℕ) (first_log logs : ℕ) : Type 0 where
  pub whole : length p.words ≡ 512 * length p.kinds
  pub entries : Entries p
  pub top : (r : ℕ) → root ≡ Some r → slice_get p.kinds r ≡ Some (kind.Table Four)
  pub log : (f : ℕ) → first_log ≤ f → f < first_log + logs → slice_get p.kinds f ≡ Some kind.Log
  pub only : (f : ℕ) → slice_get p.kinds f ≡ Some kind.Log → (first_log ≤ f) × (f < first_log + logs)
  pub regions : Regions p
  pub code : (f : ℕ) → slice_get p.kinds f ≡ Some kind.Code → scanned p.words f ≡ true

-- Where words are changed that are neither a table's nor code, it is so still.
pub rewritten : (p : Picture) (root : Option ℕ) (first_log logs : ℕ) (ws : List ℕ) → Sound p root first_log logs → length ws ≡ length p.words
    → ((f : ℕ) (level : Level) → slice_get p.kinds f ≡ Some (kind.Table level) → SameFrame ws p.words f)
    → ((f : ℕ) → slice_get p.kinds f ≡ Some kind.Code → SameFrame ws p.words f)
    → Sound (with_words p ws) root first_log logs
rewritten p root first_log logs ws sound long tables codes = record {
  whole = long ∙ sound.whole;
  entries = λ table index level is low here.
      let same : entry_at ws table index ≡ entry_at p.words table index = tables table level is index low in
      subst (Names p.kinds level) (sym same) (sound.entries table index level is low (ap present (sym same) ∙ here));
  top = sound.top;
  log = sound.log;
  only = sound.only;
  regions = record { lived = sound.regions.lived; apart = sound.regions.apart };
  code = λ f is. sym (scan_same ws p.words f (codes f is)) ∙ sound.code f is;
}

-- n frames from a first one on got a kind in m that they did not have in p; of all others kind and words are as they were.
pub record Turned (p m : Picture) (from n : ℕ) (k : FrameKind) : Type 0 where
  pub words : length m.words ≡ length p.words
  pub kinds : length m.kinds ≡ length p.kinds
  pub turns : (f : ℕ) → from ≤ f → f < from + n → slice_get m.kinds f ≡ Some k
  pub others : (f : ℕ) → Outside from n f → slice_get m.kinds f ≡ slice_get p.kinds f
  pub same : (f : ℕ) → Outside from n f → SameFrame m.words p.words f

-- None of a higher table's entries is present and names one of n frames from a first one on; and no level-1 entry that is present and names one is writable, or executable.
abbrev pub NotAbove : Picture → ℕ → ℕ → Type 0
NotAbove p from n = (table index : ℕ) (level lower : Level) → below level ≡ Some lower → slice_get p.kinds table ≡ Some (kind.Table level) → index < 512 → present (entry_at p.words table index) ≡ true
    → from ≤ frame_of (entry_at p.words table index) → frame_of (entry_at p.words table index) < from + n → ⊥

abbrev pub NotWritable : Picture → ℕ → ℕ → Type 0
NotWritable p from n = (table index : ℕ) → slice_get p.kinds table ≡ Some (kind.Table One) → index < 512 → present (entry_at p.words table index) ≡ true → writable (entry_at p.words table index) ≡ true
    → from ≤ frame_of (entry_at p.words table index) → frame_of (entry_at p.words table index) < from + n → ⊥

abbrev pub NotExecutable : Picture → ℕ → ℕ → Type 0
NotExecutable p from n = (table index : ℕ) → slice_get p.kinds table ≡ Some (kind.Table One) → index < 512 → present (entry_at p.words table index) ≡ true → no_execute (entry_at p.words table index) ≡ false
    → from ≤ frame_of (entry_at p.words table index) → frame_of (entry_at p.words table index) < from + n → ⊥

-- No entry makes use of any of those frames.
pub record Unused (p : Picture) (from n : ℕ) : Type 0 where
  pub not_above : NotAbove p from n
  pub not_writable : NotWritable p from n
  pub not_executable : NotExecutable p from n

-- So what an entry of another table names is what it was.
names_still : (p m : Picture) (from n : ℕ) (k : FrameKind) → Turned p m from n k → Entries p → Unused p from n → (table index : ℕ) (level : Level) → slice_get p.kinds table ≡ Some (kind.Table level) → index < 512 → present (entry_at p.words table index) ≡ true → Names m.kinds level (entry_at p.words table index)
names_still p m from n k turned entries unused table index level is low here = ⊎_elim
    (λ inside. record {
      table = λ lower e. absurd (unused.not_above table index level lower e is low here inside.0 inside.1);
      plain = λ one w. absurd (unused.not_writable table index (is ∙ ap (λ l. Some (kind.Table l)) one) low here w inside.0 inside.1);
      code = λ one x. absurd (unused.not_executable table index (is ∙ ap (λ l. Some (kind.Table l)) one) low here x inside.0 inside.1);
    })
    (λ outside. let as_it_was = entries table index level is low here in let still = turned.others (frame_of (entry_at p.words table index)) outside in record {
      table = λ lower e. still ∙ as_it_was.table lower e;
      plain = λ one w. still ∙ as_it_was.plain one w;
      code = λ one x. still ∙ as_it_was.code one x;
    })
    (inside_or_outside from n (frame_of (entry_at p.words table index)))

-- Where frames that no entry makes use of get another kind, it is so still.
pub turning : (p m : Picture) (root : Option ℕ) (first_log logs from n : ℕ) (k : FrameKind) → Sound p root first_log logs → Turned p m from n k → Unused p from n
    → ((f : ℕ) → from ≤ f → f < from + n → slice_get p.kinds f ≡ Some kind.Log → ⊥)
    → (Some k ≡ Some kind.Log → ⊥)
    → ((f index : ℕ) (level : Level) → Some k ≡ Some (kind.Table level) → from ≤ f → f < from + n → index < 512 → present (entry_at m.words f index) ≡ false)
    → ((f : ℕ) → root ≡ Some f → from ≤ f → f < from + n → ⊥)
    → ((f : ℕ) → Some k ≡ Some kind.Code → from ≤ f → f < from + n → scanned m.words f ≡ true)
    → Regions m
    → Sound m root first_log logs
turning p m root first_log logs from n k sound turned unused was_no_log is_no_log empty no_root scan regions = record {
  whole = turned.words ∙ sound.whole ∙ ap (λ j. 512 * j) (sym turned.kinds);
  entries = λ table index level is low here. ⊎_elim
      (λ inside. absurd (false≢true (sym (empty table index level (sym (turned.turns table inside.0 inside.1) ∙ is) inside.0 inside.1 low) ∙ here)))
      (λ outside.
      let same = turned.same table outside index low in
      subst (Names m.kinds level) (sym same) (names_still p m from n k turned sound.entries unused table index level (sym (turned.others table outside) ∙ is) low (ap present (sym same) ∙ here)))
      (inside_or_outside from n table);
  top = λ r is. ⊎_elim (λ inside. absurd (no_root r is inside.0 inside.1)) (λ outside. turned.others r outside ∙ sound.top r is) (inside_or_outside from n r);
  log = λ f low high. ⊎_elim (λ inside. absurd (was_no_log f inside.0 inside.1 (sound.log f low high))) (λ outside. turned.others f outside ∙ sound.log f low high) (inside_or_outside from n f);
  only = λ f is. ⊎_elim (λ inside. absurd (is_no_log (sym (turned.turns f inside.0 inside.1) ∙ is))) (λ outside. sound.only f (sym (turned.others f outside) ∙ is)) (inside_or_outside from n f);
  regions = regions;
  code = λ f is. ⊎_elim
      (λ inside. scan f (sym (turned.turns f inside.0 inside.1) ∙ is) inside.0 inside.1)
      (λ outside. sym (scan_same m.words p.words f (turned.same f outside)) ∙ sound.code f (sym (turned.others f outside) ∙ is))
      (inside_or_outside from n f);
}

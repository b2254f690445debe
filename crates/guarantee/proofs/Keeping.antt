-- Each change of a picture leaves sound what was sound, where its questions had a yes.
use Rattle.std.proofs.Common.{◌≡◌, ℕ, ◌+◌, ◌-◌, ◌*◌, ◌<◌, ◌≤◌, Bool, true, false, ◌⊎◌, inl, inr, ⊎_elim, List, length, set, slice_get, slice_index, Option, Some, refl, sym, subst, ap, ◌∙◌, arith}
use Rattle.std.proofs.lemmas.Bool.{cases_eq, false≢true}
use Rattle.std.proofs.lemmas.List.{length-set}
use Rattle.std.proofs.lemmas.Option.{same_Some, slice_get_within}
use Rattle.frames.specs.Kinds.{can_be_taken, is_code, is_plain, is_table}
use Rattle.frames.specs.Regions.{frames_needed}
use Rattle.frames.specs.declared.kinds.FrameKind.{FrameKind}
use Rattle.frames.specs.declared.kinds.FrameKind.TheVariants as kind
use Rattle.frames.specs.declared.kinds.Level.{Level}
use Rattle.frames.specs.declared.kinds.Level.TheVariants.{One, Four}
use Rattle.frames.specs.declared.regions.RegionState.{RegionState}
use Rattle.frames.specs.declared.regions.RegionState.TheVariants as region
use Rattle.journal.proofs.Fillings.{length_filled}
use Rattle.journal.proofs.Staying.{first_frame, length_put, live_state, region_size, set_found}
use Rattle.journal.specs.Pictures.{Picture, apply, filled, put_bytes, region_of, with_words, let_go}
use Rattle.journal.specs.Records.{declared, retired, taken, accepted, unaccepted}
use Rattle.paging.specs.Entries.{entry_at, present}
use Rattle.guard.specs.Scans.{NoneAnywhere, scanned}
use Rattle.guard.specs.declared.scans.Sought.TheVariants.{Executable, Present, Writable}
use Rattle.guarantee.proofs.Frames.{is_log, is_region, level_in, above_by_kind, differ, executable_by_kind, no_executable, no_present, no_writable, sole, writable_by_kind}
use Rattle.guarantee.proofs.Places.{Outside, SameFrame, bytes_out, filled_in, filled_out, inside_or_outside, set_in, set_out, scan_same, zeroed_in, zeroed_out}
use Rattle.guarantee.proofs.Sounds.{Entries, Names, Regions, Sound, Turned, Unused, below, rewritten, turning}

-- A word of a frame that was zeroed, and of one that was not.
pub zero_there : (ws : List ℕ) (from n f index : ℕ) → from ≤ f → f < from + n → index < 512 → entry_at (filled ws (512 * from) (512 * n) 0) f index ≡ 0
zero_there ws from n f index low high under = zeroed_in ws (512 * from) (512 * n) (512 * f + index) (omega (arith, low)) (omega (arith, high, under))

pub zero_not_there : (ws : List ℕ) (from n f index : ℕ) → Outside from n f → index < 512 → entry_at (filled ws (512 * from) (512 * n) 0) f index ≡ entry_at ws f index
zero_not_there ws from n f index outside low = zeroed_out ws (512 * from) (512 * n) (512 * f + index) (places outside)
  where
    places : Outside from n f → Outside (512 * from) (512 * n) (512 * f + index)
    places (inl under) = inl (omega (arith, low, under))
    places (inr over) = inr (omega (arith, over))

-- Frames that are turned, and frames that are zeroed besides.
pub turned_alone : (p : Picture) (rs : List RegionState) (from n : ℕ) (k : FrameKind) → from + n ≤ length p.kinds → Turned p (record { words = p.words; kinds = filled p.kinds from n k; regions = rs }) from n k
turned_alone p rs from n k there = record {
  words = refl;
  kinds = length_filled p.kinds from n k;
  turns = λ f low high. filled_in p.kinds from n k f low high (omega (arith, there, high));
  others = λ f outside. filled_out p.kinds from n k f outside;
  same = λ f outside index low. refl;
}

pub turned_zeroed : (p : Picture) (rs : List RegionState) (from n : ℕ) (k : FrameKind) → from + n ≤ length p.kinds → Turned p (record { words = filled p.words (512 * from) (512 * n) 0; kinds = filled p.kinds from n k; regions = rs }) from n k
turned_zeroed p rs from n k there = record {
  words = length_filled p.words (512 * from) (512 * n) 0;
  kinds = length_filled p.kinds from n k;
  turns = λ f low high. filled_in p.kinds from n k f low high (omega (arith, there, high));
  others = λ f outside. filled_out p.kinds from n k f outside;
  same = λ f outside index low. zero_not_there p.words from n f index outside low;
}

-- Regions are as they were, where none of their frames is turned.
regions_kept : (p m : Picture) (from n : ℕ) (k : FrameKind) → Regions p → Turned p m from n k → m.regions ≡ p.regions → ((f : ℕ) → from ≤ f → f < from + n → slice_get p.kinds f ≡ Some kind.Region → ⊥) → Regions m
regions_kept p m from n k regions turned same no_region = record {
  lived = λ r first size is j low. still (first + j) (regions.lived r first size (was r _ is) j low);
  apart = λ r first size q start long differs is other j i low under. regions.apart r first size q start long differs (was r _ is) (was q _ other) j i low under;
}
  where
    was : (r : ℕ) (state : RegionState) → region_of m r ≡ Some state → region_of p r ≡ Some state
    was r state is = ap (λ rs. slice_get rs r) (sym same) ∙ is

    still : (f : ℕ) → slice_get p.kinds f ≡ Some kind.Region → slice_get m.kinds f ≡ Some kind.Region
    still f is = ⊎_elim (λ inside. absurd (no_region f inside.0 inside.1 is)) (λ outside. turned.others f outside ∙ is) (inside_or_outside from n f)

-- A frame of one kind is of no other.
clash : (kinds : List FrameKind) (frame : ℕ) (o : Option FrameKind) (test : Option FrameKind → Bool) → slice_get kinds frame ≡ o → test o ≡ false → (f : ℕ) (x : Option FrameKind) → frame ≤ f → f < frame + 1 → slice_get kinds f ≡ x → test x ≡ true → ⊥
clash kinds frame o test is fails f x low high e holds =
    let same : f ≡ frame = sole frame f low high in
    differ test x o (sym e ∙ ap (slice_get kinds) same ∙ is) holds fails

-- A single frame that gets another kind, while regions are as they were and words but its own: it was of a kind that no region and no log has, and no entry makes use of it.
single : (p m : Picture) (root : Option ℕ) (first_log logs frame : ℕ) (k : FrameKind) (o : Option FrameKind) → Sound p root first_log logs → Turned p m frame 1 k → Unused p frame 1 → m.regions ≡ p.regions
    → slice_get p.kinds frame ≡ o → is_log o ≡ false → is_region o ≡ false → is_log (Some k) ≡ false
    → ((index : ℕ) (level : Level) → Some k ≡ Some (kind.Table level) → index < 512 → present (entry_at m.words frame index) ≡ false)
    → (root ≡ Some frame → ⊥)
    → (Some k ≡ Some kind.Code → scanned m.words frame ≡ true)
    → Sound m root first_log logs
single p m root first_log logs frame k o sound turned unused same is no_log no_region new_no_log empty no_root scan = turning p m root first_log logs frame 1 k sound turned unused
    (λ f low high e. clash p.kinds frame o is_log is no_log f (Some kind.Log) low high e refl)
    (λ e. differ is_log (Some kind.Log) (Some k) (sym e) refl new_no_log)
    (λ f index level e low high under. ap (λ g. present (entry_at m.words g index)) (sole frame f low high) ∙ empty index level e under)
    (λ f e low high. no_root (e ∙ ap Some (sole frame f low high)))
    (λ f e low high. ap (scanned m.words) (sole frame f low high) ∙ scan e)
    (regions_kept p m frame 1 k sound.regions turned same (λ f low high e. clash p.kinds frame o is_region is no_region f (Some kind.Region) low high e refl))

-- One frame that is there.
pub one_there : (p : Picture) (frame : ℕ) (k : FrameKind) → slice_get p.kinds frame ≡ Some k → frame + 1 ≤ length p.kinds
one_there p frame k is = let there : frame < length p.kinds = slice_get_within p.kinds frame k is in omega (arith, there)

-- A plain frame that no writable entry names is not made use of.
plain_unused : (p : Picture) (frame : ℕ) → Entries p → slice_get p.kinds frame ≡ Some kind.Plain → NoneAnywhere p One (Writable frame 1) → Unused p frame 1
plain_unused p frame entries plain none = record {
  not_above = above_by_kind p frame 1 entries (λ f level low high e. clash p.kinds frame _ is_table plain refl f _ low high e refl);
  not_writable = no_writable p frame 1 none;
  not_executable = executable_by_kind p frame 1 entries (λ f low high e. clash p.kinds frame _ is_code plain refl f _ low high e refl);
}

-- The root is a table, so it is no frame of another kind.
not_root : (p : Picture) (root : Option ℕ) (first_log logs frame : ℕ) (o : Option FrameKind) → Sound p root first_log logs → slice_get p.kinds frame ≡ o → is_table o ≡ false → root ≡ Some frame → ⊥
not_root p root first_log logs frame o sound is fails e = differ is_table (Some (kind.Table Four)) o (sym (sound.top frame e) ∙ is) refl fails

-- Declare, retire, accept and unaccept.
pub declare_sound : (p : Picture) (root : Option ℕ) (first_log logs frame : ℕ) (level : Level) → Sound p root first_log logs → slice_get p.kinds frame ≡ Some kind.Plain → NoneAnywhere p One (Writable frame 1) → Sound (apply (declared frame level) p) root first_log logs
declare_sound p root first_log logs frame level sound plain none = single p _ root first_log logs frame (kind.Table level) (Some kind.Plain) sound
    (turned_zeroed p p.regions frame 1 (kind.Table level) (one_there p frame _ plain)) (plain_unused p frame sound.entries plain none) refl plain refl refl refl
    (λ index l e under. ap present (zero_there p.words frame 1 frame index (omega arith) (omega arith) under))
    (not_root p root first_log logs frame _ sound plain refl)
    (λ e. absurd (differ is_code _ _ (sym e) refl refl))

pub accept_sound : (p : Picture) (root : Option ℕ) (first_log logs frame : ℕ) → Sound p root first_log logs → slice_get p.kinds frame ≡ Some kind.Plain → NoneAnywhere p One (Writable frame 1) → scanned p.words frame ≡ true → Sound (apply (accepted frame) p) root first_log logs
accept_sound p root first_log logs frame sound plain none scan = single p _ root first_log logs frame kind.Code (Some kind.Plain) sound
    (turned_alone p p.regions frame 1 kind.Code (one_there p frame _ plain)) (plain_unused p frame sound.entries plain none) refl plain refl refl refl
    (λ index l e under. absurd (differ is_code _ _ e refl refl))
    (not_root p root first_log logs frame _ sound plain refl)
    (λ e. scan)

pub retire_sound : (p : Picture) (root : Option ℕ) (first_log logs frame : ℕ) (level : Level) → Sound p root first_log logs → slice_get p.kinds frame ≡ Some (kind.Table level) → (root ≡ Some frame → ⊥)
    → ((above : Level) → below above ≡ Some level → NoneAnywhere p above (Present frame)) → Sound (apply (retired frame) p) root first_log logs
retire_sound p root first_log logs frame level sound table no_root none = single p _ root first_log logs frame kind.Plain (Some (kind.Table level)) sound
    (turned_alone p p.regions frame 1 kind.Plain (one_there p frame _ table))
    (record {
      not_above = no_present p frame level none table sound.entries;
      not_writable = writable_by_kind p frame 1 sound.entries (λ f low high e. clash p.kinds frame _ is_plain table refl f _ low high e refl);
      not_executable = executable_by_kind p frame 1 sound.entries (λ f low high e. clash p.kinds frame _ is_code table refl f _ low high e refl);
    })
    refl table refl refl refl
    (λ index l e under. absurd (differ is_plain _ _ e refl refl))
    no_root
    (λ e. absurd (differ is_plain _ _ e refl refl))

pub unaccept_sound : (p : Picture) (root : Option ℕ) (first_log logs frame : ℕ) → Sound p root first_log logs → slice_get p.kinds frame ≡ Some kind.Code → NoneAnywhere p One (Executable frame) → Sound (apply (unaccepted frame) p) root first_log logs
unaccept_sound p root first_log logs frame sound code none = single p _ root first_log logs frame kind.Plain (Some kind.Code) sound
    (turned_alone p p.regions frame 1 kind.Plain (one_there p frame _ code))
    (record {
      not_above = above_by_kind p frame 1 sound.entries (λ f level low high e. clash p.kinds frame _ is_table code refl f _ low high e refl);
      not_writable = writable_by_kind p frame 1 sound.entries (λ f low high e. clash p.kinds frame _ is_plain code refl f _ low high e refl);
      not_executable = no_executable p frame none;
    })
    refl code refl refl refl
    (λ index l e under. absurd (differ is_plain _ _ e refl refl))
    (not_root p root first_log logs frame _ sound code refl)
    (λ e. absurd (differ is_plain _ _ e refl refl))

-- Take: frames that can be taken are a region's afterwards.
pub take_sound : (p : Picture) (root : Option ℕ) (first_log logs r first n : ℕ) → Sound p root first_log logs → first + frames_needed n ≤ length p.kinds
    → ((f : ℕ) → first ≤ f → f < first + frames_needed n → can_be_taken (slice_get p.kinds f) ≡ true)
    → NoneAnywhere p One (Writable first (frames_needed n)) → Sound (apply (taken r first n) p) root first_log logs
take_sound p root first_log logs r first n sound there free none = turning p m root first_log logs first count kind.Region sound turned
    (record {
      not_above = above_by_kind p first count sound.entries (λ f level low high e. never f low high _ e refl);
      not_writable = no_writable p first count none;
      not_executable = executable_by_kind p first count sound.entries (λ f low high e. never f low high _ e refl);
    })
    (λ f low high e. never f low high _ e refl)
    (λ e. differ is_region _ _ e refl refl)
    (λ f index level e low high under. absurd (differ is_region _ _ e refl refl))
    (λ f e low high. never f low high _ (sound.top f e) refl)
    (λ f e low high. absurd (differ is_region _ _ e refl refl))
    (record {
      lived = λ q start size is k low. ⊎_elim
          (λ new. turned.turns (start + k) (omega (arith, starts size start (new.1))) (inside_new k start size new.1 low))
          (λ old. still (start + k) (sound.regions.lived q start size old.1 k low))
          (set_found p.regions r q (region.Live first n) (region.Live start size) is);
      apart = λ q start size o from long differs is other k j low under same. ⊎_elim
          (λ new. ⊎_elim
          (λ newer. differs (new.0 ∙ sym newer.0))
          (λ old. never (from + j) (subst (λ f. first ≤ f) same (omega (arith, starts size start (new.1)))) (subst (λ f. f < first + count) same (inside_new k start size new.1 low)) _ (sound.regions.lived o from long old.1 j under) refl)
          (set_found p.regions r o (region.Live first n) (region.Live from long) other))
          (λ old. ⊎_elim
          (λ newer. never (start + k) (subst (λ f. first ≤ f) (sym same) (omega (arith, starts long from (newer.1)))) (subst (λ f. f < first + count) (sym same) (inside_new j from long newer.1 under)) _ (sound.regions.lived q start size old.1 k low) refl)
          (λ older. sound.regions.apart q start size o from long differs old.1 older.1 k j low under same)
          (set_found p.regions r o (region.Live first n) (region.Live from long) other))
          (set_found p.regions r q (region.Live first n) (region.Live start size) is);
    })
  where
    count : ℕ
    count = frames_needed n

    m : Picture
    m = apply (taken r first n) p

    turned : Turned p m first count kind.Region
    turned = turned_zeroed p (set p.regions r (region.Live first n)) first count kind.Region there

    never : (f : ℕ) → first ≤ f → f < first + count → (x : Option FrameKind) → slice_get p.kinds f ≡ x → can_be_taken x ≡ false → ⊥
    never f low high x e fails = false≢true (sym fails ∙ sym (ap can_be_taken e) ∙ free f low high)

    starts : (size start : ℕ) → region.Live start size ≡ region.Live first n → start ≡ first
    starts size start e = ap first_frame e

    inside_new : (k start size : ℕ) → region.Live start size ≡ region.Live first n → k < frames_needed size → start + k < first + count
    inside_new k start size e low =
        let begin : start ≡ first = ap first_frame e in
        let long : frames_needed size ≡ count = ap (λ s. frames_needed (region_size s)) e in
        omega (arith, begin, long, low)

    still : (f : ℕ) → slice_get p.kinds f ≡ Some kind.Region → slice_get m.kinds f ≡ Some kind.Region
    still f is = ⊎_elim (λ inside. absurd (never f inside.0 inside.1 _ is refl)) (λ outside. turned.others f outside ∙ is) (inside_or_outside first count f)

-- Bytes that end inside a region lie in its frames, so every other frame keeps its words;
pub writes_outside : (ws : List ℕ) (first n offset : ℕ) (bytes : List ℕ) → offset + length bytes ≤ n → (f : ℕ) → Outside first (frames_needed n) f → SameFrame (put_bytes ws (4096 * first + offset) bytes) ws f
writes_outside ws first n offset bytes ends f outside index low = bytes_out ws (4096 * first + offset) bytes (512 * f + index) (places outside)
  where
    places : Outside first (frames_needed n) f → (8 * (512 * f + index) + 8 ≤ 4096 * first + offset) ⊎ (4096 * first + offset + length bytes ≤ 8 * (512 * f + index))
    places (inl under) = inl (omega (arith, under, low))
    places (inr over) = inr (omega (arith, over, ends))

-- and so does a frame of another kind, where the region is live.
pub lies_in : (p : Picture) (r first n f : ℕ) → Regions p → region_of p r ≡ Some (region.Live first n) → first ≤ f → f < first + frames_needed n → slice_get p.kinds f ≡ Some kind.Region
lies_in p r first n f regions live low high =
    let here : first + (f - first) ≡ f = omega (arith, low) in
    ap (slice_get p.kinds) (sym here) ∙ regions.lived r first n live (f - first) (omega (arith, low, high))

pub writes_elsewhere : (p : Picture) (r first n offset : ℕ) (bytes : List ℕ) → Regions p → region_of p r ≡ Some (region.Live first n) → offset + length bytes ≤ n → (f : ℕ) → (slice_get p.kinds f ≡ Some kind.Region → ⊥) → SameFrame (put_bytes p.words (4096 * first + offset) bytes) p.words f
writes_elsewhere p r first n offset bytes regions live ends f other = ⊎_elim
    (λ inside. absurd (other (lies_in p r first n f regions live inside.0 inside.1)))
    (λ outside. writes_outside p.words first n offset bytes ends f outside)
    (inside_or_outside first (frames_needed n) f)

-- The frames of a region that is let go are turned, and no words are changed.
pub release_turned : (p : Picture) (r first n : ℕ) → Regions p → region_of p r ≡ Some (region.Live first n) → Turned p (let_go p (Some (region.Live first n)) r) first (frames_needed n) kind.Reserve
release_turned p r first n regions live = record {
  words = refl;
  kinds = length_filled p.kinds first (frames_needed n) kind.Reserve;
  turns = λ f low high. filled_in p.kinds first (frames_needed n) kind.Reserve f low high (slice_get_within p.kinds f kind.Region (lies_in p r first n f regions live low high));
  others = λ f outside. filled_out p.kinds first (frames_needed n) kind.Reserve f outside;
  same = λ f outside index low. refl;
}

-- Release: the frames of a live region are reserve afterwards, and those of no other are.
pub release_sound : (p : Picture) (root : Option ℕ) (first_log logs r first n : ℕ) → Sound p root first_log logs → region_of p r ≡ Some (region.Live first n) → Sound (let_go p (Some (region.Live first n)) r) root first_log logs
release_sound p root first_log logs r first n sound live = turning p m root first_log logs first count kind.Reserve sound turned
    (record {
      not_above = above_by_kind p first count sound.entries (λ f level low high e. never f low high is_table _ e refl refl);
      not_writable = writable_by_kind p first count sound.entries (λ f low high e. never f low high is_plain _ e refl refl);
      not_executable = executable_by_kind p first count sound.entries (λ f low high e. never f low high is_code _ e refl refl);
    })
    (λ f low high e. never f low high is_log _ e refl refl)
    (λ e. differ is_log _ _ (sym e) refl refl)
    (λ f index level e low high under. absurd (differ is_table _ _ (sym e) refl refl))
    (λ f e low high. never f low high is_table _ (sound.top f e) refl refl)
    (λ f e low high. absurd (differ is_code _ _ (sym e) refl refl))
    (record {
      lived = λ q start size is k low. still q start size (was q start size is) k low;
      apart = λ q start size o from long differs is other k j low under same. sound.regions.apart q start size o from long differs (was q start size is).1 (was o from long other).1 k j low under same;
    })
  where
    count : ℕ
    count = frames_needed n

    m : Picture
    m = let_go p (Some (region.Live first n)) r

    turned : Turned p m first count kind.Reserve
    turned = release_turned p r first n sound.regions live

    never : (f : ℕ) → first ≤ f → f < first + count → (test : Option FrameKind → Bool) (x : Option FrameKind) → slice_get p.kinds f ≡ x → test x ≡ true → test (Some kind.Region) ≡ false → ⊥
    never f low high test x e holds fails = differ test x (Some kind.Region) (sym e ∙ lies_in p r first n f sound.regions live low high) holds fails

    was : (q start size : ℕ) → region_of m q ≡ Some (region.Live start size) → (q ≡ r → ⊥) × (region_of p q ≡ Some (region.Live start size))
    was q start size is = ⊎_elim
        (λ this. absurd (differ live_state _ _ this.1 refl refl))
        (λ other. other)
        (set_found p.regions r q region.Released (region.Live start size) is)

    still : (q start size : ℕ) → (q ≡ r → ⊥) × (region_of p q ≡ Some (region.Live start size)) → (k : ℕ) → k < frames_needed size → slice_get m.kinds (start + k) ≡ Some kind.Region
    still q start size other k low = ⊎_elim
        (λ inside. let here : start + k ≡ first + (start + k - first) = omega (arith, inside.0) in
        absurd (sound.regions.apart q start size r first n other.0 other.1 live k (start + k - first) low (omega (arith, inside.0, inside.1)) here))
        (λ outside. turned.others (start + k) outside ∙ sound.regions.lived q start size other.1 k low)
        (inside_or_outside first count (start + k))

-- Set: one entry of a table is another, which names what it may.
pub set_sound : (p : Picture) (root : Option ℕ) (first_log logs table index entry : ℕ) (level : Level) → Sound p root first_log logs → slice_get p.kinds table ≡ Some (kind.Table level) → index < 512
    → (present entry ≡ true → Names p.kinds level entry) → Sound (with_words p (set p.words (512 * table + index) entry)) root first_log logs
set_sound p root first_log logs table index entry level sound is under names = record {
  whole = length-set p.words (512 * table + index) entry ∙ sound.whole;
  entries = λ t i l here low shown. ⊎_elim
      (λ same.
      let its : t ≡ table = omega (arith, same, low, under) in
      let level_of_it : l ≡ level = same_Some _ _ (ap level_in (sym here ∙ ap (slice_get p.kinds) its ∙ is)) in
      let read : entry_at ws t i ≡ entry = ap (slice_index ws) same ∙ set_in p.words (512 * table + index) entry room in
      subst (λ w. Names p.kinds l w) (sym read) (subst (λ x. Names p.kinds x entry) (sym level_of_it) (names (ap present (sym read) ∙ shown))))
      (λ apart.
      let read : entry_at ws t i ≡ entry_at p.words t i = set_out p.words (512 * table + index) entry (512 * t + i) apart in
      subst (λ w. Names p.kinds l w) (sym read) (sound.entries t i l here low (ap present (sym read) ∙ shown)))
      (cases_eq (512 * t + i) (512 * table + index));
  top = sound.top;
  log = sound.log;
  only = sound.only;
  regions = record { lived = sound.regions.lived; apart = sound.regions.apart };
  code = λ f e. (rewritten_code f e);
}
  where
    ws : List ℕ
    ws = set p.words (512 * table + index) entry

    room : 512 * table + index < length p.words
    room = let there : table < length p.kinds = slice_get_within p.kinds table _ is in omega (arith, there, under, sound.whole)

    rewritten_code : (f : ℕ) → slice_get p.kinds f ≡ Some kind.Code → scanned ws f ≡ true
    rewritten_code f e = sym (scan_same ws p.words f (λ i low. set_out p.words (512 * table + index) entry (512 * f + i) (λ same.
        let its : f ≡ table = omega (arith, same, low, under) in
        differ is_code _ _ (sym e ∙ ap (slice_get p.kinds) its ∙ is) refl refl))) ∙ sound.code f e

-- Write: so it leaves sound what was sound.
pub write_sound : (p : Picture) (root : Option ℕ) (first_log logs r first n offset : ℕ) (bytes : List ℕ) → Sound p root first_log logs → region_of p r ≡ Some (region.Live first n) → offset + length bytes ≤ n → Sound (with_words p (put_bytes p.words (4096 * first + offset) bytes)) root first_log logs
write_sound p root first_log logs r first n offset bytes sound live ends = rewritten p root first_log logs _ sound (length_put p.words (4096 * first + offset) bytes)
    (λ f level e. elsewhere f _ e is_table refl refl)
    (λ f e. elsewhere f _ e is_code refl refl)
  where
    elsewhere : (f : ℕ) (x : Option FrameKind) → slice_get p.kinds f ≡ x → (test : Option FrameKind → Bool) → test x ≡ true → test (Some kind.Region) ≡ false → SameFrame (put_bytes p.words (4096 * first + offset) bytes) p.words f
    elsewhere f x e test holds fails = writes_elsewhere p r first n offset bytes sound.regions live ends f (λ its. differ test x (Some kind.Region) (sym e ∙ its) holds fails)

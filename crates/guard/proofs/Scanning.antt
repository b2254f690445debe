-- Numbers that pass a test, one after the other.
use Rattle.std.proofs.lemmas.List.{drop_all, drop_more}
use Rattle.std.proofs.Common.{◌≡◌, ℕ, zero, suc, ◌+◌, ◌<◌, ◌≤◌, Bool, true, false, not, List, Option, Some, None, length, ◌++◌, ◌*◌, drop, slice_index, append-nil, ◌&&◌, ◌||◌, ⊎_elim, slice_get, sym, refl, ap, ◌∙◌, arith}
use Rattle.std.proofs.lemmas.Bool.{cases_Bool, cases_eq, false≢true}
use Rattle.std.proofs.lemmas.Bool.Decides.{nat_tests}
use Rattle.std.proofs.lemmas.Option.{same_Some, slice_get_within}
use Rattle.std.specs.Prelude.{IsTrue, ◌==◌}
use Rattle.journal.proofs.Inverses.{of_level}
use Rattle.std.proofs.lemmas.List.FromFn.{get_or-map-range_with_len, length-map-range_with_len}
use Rattle.memory.specs.ByteOrder.{bytes_of}
use Rattle.frames.specs.Kinds.{level_number, level_of}
use Rattle.frames.specs.declared.kinds.FrameKind.TheVariants as kind
use Rattle.frames.specs.declared.kinds.Level.TheVariants.{One, Two, Three, Four}
use Rattle.frames.specs.declared.kinds.FrameKind.{FrameKind}
use Rattle.frames.specs.declared.kinds.Level.{Level}
use Rattle.scanner.specs.Rule.{bytes_of_words, passing}
use Rattle.scanner.specs.States.{Fed, seen}
use Rattle.scanner.specs.declared.scan.State.{State}
use Rattle.scanner.specs.declared.scan.State.TheVariants.{Nothing}
use Rattle.guard.specs.Scans.{EntryByEntry, NoneAnywhere, no_entry, clear_frames, clear_table, each_below, frame_words, is_table_of, left_to_scan, scanned, wanted}
use Rattle.guard.specs.declared.scans.Sought.{Sought}
use Rattle.paging.specs.Entries.{entry_at}

-- One more number passes,
one_more : (test : ℕ → Bool) (n : ℕ) → each_below n test ≡ true → test n ≡ true → each_below (n + 1) test ≡ true
unfolding each_below
one_more test n so is = let next : n + 1 ≡ suc n = omega arith in ap (λ k. each_below k test) next ∙ (λ i. so i && is i)

-- and where one fails, they do not all pass, however many there are.
one_fails : (test : ℕ → Bool) (n k : ℕ) → test k ≡ false → k < n → false ≡ each_below n test
unfolding each_below
one_fails test zero k is low = absurd (none low)
  where
    none : k < 0 → ⊥
    none l = omega (arith, l)
one_fails test (suc n) k is low = ⊎_elim
    (λ same. sym ((λ i. each_below n test && test (sym same i)) ∙ ap (λ b. each_below n test && b) is ∙ and_false (each_below n test)))
    (λ apart. ap (λ b. b && test n) (one_fails test n k is (omega (arith, low, apart))))
    (cases_eq k n)
  where
    and_false : (b : Bool) → (b && false) ≡ false
    and_false true = refl
    and_false false = refl

either : (a b : Bool) → not (a && not b) ≡ (not a || b)
either true true = refl
either true false = refl
either false b = refl

-- No entry has been read yet,
pub no_entry_yet : (words : List ℕ) (sought : Sought) (table : ℕ) → clear_table words sought table 0 ≡ true
unfolding each_below clear_table
no_entry_yet words sought table = refl

-- one more is not looked for,
pub entry_clear : (words : List ℕ) (sought : Sought) (table n e : ℕ) (r : Bool) → clear_table words sought table n ≡ true → e ≡ entry_at words table n → r ≡ wanted sought e → r ≡ false → clear_table words sought table (n + 1) ≡ true
unfolding clear_table
entry_clear words sought table n e r so read is clear = one_more _ n so (λ i. not ((ap (wanted sought) (sym read) ∙ sym is ∙ clear) i))

-- and where one is, the table is not clear of it.
pub entry_wanted : (words : List ℕ) (sought : Sought) (table n k e : ℕ) (r : Bool) → e ≡ entry_at words table k → r ≡ wanted sought e → r ≡ true → k < n → false ≡ clear_table words sought table n
unfolding clear_table
entry_wanted words sought table n k e r read is found low = one_fails _ n k (λ i. not ((ap (wanted sought) (sym read) ∙ sym is ∙ found) i)) low

-- No table has been read yet,
pub no_table_yet : (words : List ℕ) (kinds : List FrameKind) (level : Level) (sought : Sought) → clear_frames words kinds level sought 0 ≡ true
unfolding each_below clear_frames
no_table_yet words kinds level sought = refl

-- one more frame is no table of the level, or one that is clear,
pub table_clear : (words : List ℕ) (kinds : List FrameKind) (level : Level) (sought : Sought) (n : ℕ) (r : Bool) → clear_frames words kinds level sought n ≡ true → r ≡ (is_table_of level (slice_get kinds n) && not (clear_table words sought n 512)) → r ≡ false → clear_frames words kinds level sought (n + 1) ≡ true
unfolding clear_frames
table_clear words kinds level sought n r so is clear = one_more _ n so (sym (either _ _) ∙ (λ i. not ((sym is ∙ clear) i)))

-- and where one is a table and not clear, they are not all.
pub table_wanted : (words : List ℕ) (kinds : List FrameKind) (level : Level) (sought : Sought) (n k m : ℕ) (r : Bool) → r ≡ (is_table_of level (slice_get kinds k) && not (clear_table words sought k 512)) → r ≡ true → m ≡ n → k < m → false ≡ clear_frames words kinds level sought n
unfolding clear_frames
table_wanted words kinds level sought n k m r is found all low = one_fails _ n k (sym (either _ _) ∙ (λ i. not ((sym is ∙ found) i))) (omega (arith, all, low))

-- (the bytes of the words from one on are its own, and then those of the rest)
word_bytes : (words : List ℕ) (frame i w : ℕ) → w ≡ slice_index words (512 * frame + i) → i < 512 → bytes_of_words (drop i (frame_words words frame)) ≡ bytes_of w ++ bytes_of_words (drop (i + 1) (frame_words words frame))
unfolding bytes_of_words
word_bytes words frame i w is low =
    ap bytes_of_words (drop_more (frame_words words frame) i 0 (omega (arith, low, length-map-range_with_len (slice_index words) (512 * frame) 512)))
    ∙ ap (λ x. bytes_of x ++ bytes_of_words (drop (i + 1) (frame_words words frame))) (get_or-map-range_with_len (slice_index words) (512 * frame) 512 i (512 * frame + i) 0 low refl ∙ sym is)

pub fed_on : (words : List ℕ) (frame i w : ℕ) (r : Bool) (s t : State) → Fed s (bytes_of w) r t → w ≡ slice_index words (512 * frame + i) → i < 512 → left_to_scan words frame i s ≡ (r && left_to_scan words frame (i + 1) t)
unfolding left_to_scan
fed_on words frame i w r s t fed is low = ap (λ bs. passing (seen s ++ bs)) (word_bytes words frame i w is low) ∙ fed.means (bytes_of_words (drop (i + 1) (frame_words words frame)))

-- No word of a frame is scanned yet,
pub frame_start : (words : List ℕ) (frame : ℕ) → left_to_scan words frame 0 Nothing ≡ scanned words frame
unfolding left_to_scan scanned
frame_start words frame = refl

-- one more word is,
pub frame_more : (words : List ℕ) (frame i : ℕ) (r : Bool) (s t : State) → left_to_scan words frame i s ≡ scanned words frame → left_to_scan words frame i s ≡ (r && left_to_scan words frame (i + 1) t) → r ≡ true → left_to_scan words frame (i + 1) t ≡ scanned words frame
frame_more words frame i r s t so step passed = sym (ap (λ b. b && left_to_scan words frame (i + 1) t) passed) ∙ sym step ∙ so

-- where one completes a forbidden sequence, the frame does not pass,
pub frame_stop : (words : List ℕ) (frame i : ℕ) (r : Bool) (s t : State) → left_to_scan words frame i s ≡ (r && left_to_scan words frame (i + 1) t) → r ≡ false → left_to_scan words frame i s ≡ scanned words frame → false ≡ scanned words frame
frame_stop words frame i r s t step failed so = sym (ap (λ b. b && left_to_scan words frame (i + 1) t) failed) ∙ sym step ∙ so

-- and behind the last it passes where a run may end.
pub frame_end : (words : List ℕ) (frame i : ℕ) (r : Bool) (s : State) → left_to_scan words frame i s ≡ scanned words frame → 512 ≤ i → r ≡ passing (seen s) → r ≡ scanned words frame
unfolding left_to_scan bytes_of_words scanned
frame_end words frame i r s so past is =
    is ∙ ap passing (sym (append-nil (seen s)))
    ∙ ap (λ bs. passing (seen s ++ bs)) (sym (ap bytes_of_words (drop_all i (frame_words words frame) (omega (arith, past, length-map-range_with_len (slice_index words) (512 * frame) 512)))))
    ∙ so

-- Where all numbers pass, each does, and the other way round.
each_at : (test : ℕ → Bool) (n k : ℕ) → each_below n test ≡ true → k < n → test k ≡ true
each_at test n k all low = ⊎_elim (λ passed. passed) (λ failed. absurd (false≢true (one_fails test n k failed low ∙ all))) (cases_Bool (test k))

all_pass : (test : ℕ → Bool) (n : ℕ) → ((k : ℕ) → k < n → test k ≡ true) → each_below n test ≡ true
unfolding each_below
all_pass test zero each = refl
all_pass test (suc n) each = (λ i. all_pass test n (λ k low. each k (omega (arith, low))) i && each n (omega arith) i)

-- Levels of one number are one.
same_level : (l m : Level) → (level_number l == level_number m) ≡ true → l ≡ m
same_level l m e =
    let number : level_number l ≡ level_number m = grind (arith, nat_tests, e) in
    same_Some l m (sym (of_level l) ∙ ap level_of number ∙ of_level m)

is_itself : (l : Level) → (level_number l == level_number l) ≡ true
is_itself One = refl
is_itself Two = refl
is_itself Three = refl
is_itself Four = refl

pub not_not : (b : Bool) → not b ≡ true → b ≡ false
not_not true e = absurd (false≢true e)
not_not false e = refl

passes_over : (a b : Bool) → (not a || b) ≡ true → a ≡ true → b ≡ true
passes_over true b e is = e
passes_over false b e is = absurd (false≢true is)

-- The test of all tables says of each entry of each table that it is not looked for.
pub none_anywhere : EntryByEntry
unfolding clear_frames clear_table
none_anywhere p level sought = (to, from)
  where
    to : IsTrue (no_entry p level sought) → NoneAnywhere p level sought
    to all table index is low = not_not _ (each_at _ 512 index
        (passes_over (is_table_of level (slice_get p.kinds table)) _
        (each_at _ (length p.kinds) table all (slice_get_within p.kinds table _ is))
        (ap (is_table_of level) is ∙ is_itself level))
        low)

    frame : (k : ℕ) (o : Option FrameKind) → slice_get p.kinds k ≡ o → ((index : ℕ) → slice_get p.kinds k ≡ Some (kind.Table level) → index < 512 → wanted sought (entry_at p.words k index) ≡ false) → (not (is_table_of level o) || each_below 512 (λ index. not (wanted sought (entry_at p.words k index)))) ≡ true
    frame k (Some (kind.Table l)) is each = by (level_number l == level_number level) refl
      where
        by : (b : Bool) → (level_number l == level_number level) ≡ b → (not b || each_below 512 (λ index. not (wanted sought (entry_at p.words k index)))) ≡ true
        by true e = all_pass _ 512 (λ index low. ap not (each index (is ∙ ap (λ m. Some (kind.Table m)) (same_level l level e)) low))
        by false e = refl
    frame k (Some kind.Plain) is each = refl
    frame k (Some kind.Region) is each = refl
    frame k (Some kind.Code) is each = refl
    frame k (Some kind.Log) is each = refl
    frame k (Some kind.Reserve) is each = refl
    frame k None is each = refl

    from : NoneAnywhere p level sought → IsTrue (no_entry p level sought)
    from each = all_pass _ (length p.kinds) (λ k low. frame k (slice_get p.kinds k) refl (λ index. each k index))

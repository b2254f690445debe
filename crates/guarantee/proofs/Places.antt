-- What changes of lists leave at a place: kinds of frames, and words of frames.
use Rattle.std.proofs.Common.{◌≡◌, ℕ, zero, suc, ◌+◌, ◌-◌, ◌*◌, ◌/◌, ◌%◌, ◌<◌, ◌≤◌, ◌⊎◌, inl, inr, ⊎_elim, List, [], ◌∷◌, length, set, slice_get, slice_index, Some, refl, sym, ap, ◌∙◌, arith}
use Rattle.std.proofs.lemmas.Bool.{cases_lt, cases_order}
use Rattle.std.proofs.lemmas.Grind.{same_number_lists}
use Rattle.std.proofs.lemmas.List.{get_or-set_other, get_or-set_same, length-set}
use Rattle.std.proofs.lemmas.List.FromFn.{get_or-map-range_with_len, length-map-range_with_len}
use Rattle.std.proofs.Math.ListN.{get_or-eq_default}
use Rattle.memory.specs.ByteOrder.{bytes_of, first}
use Rattle.journal.specs.Pictures.{filled, put_byte, put_bytes}
use Rattle.journal.proofs.Fillings.{length_filled}
use Rattle.journal.proofs.Staying.{get_set_other, get_set_same}
use Rattle.scanner.specs.Rule.{bytes_of_words, passing}
use Rattle.paging.specs.Entries.{entry_at}
use Rattle.guard.specs.Guarding.{words_from}
use Rattle.guard.specs.Scans.{frame_words, scanned}

-- A place is outside n places from one on.
abbrev pub Outside : ℕ → ℕ → ℕ → Type 0
Outside from n k = (k < from) ⊎ (from + n ≤ k)

-- Inside or outside.
pub inside_or_outside : (from n k : ℕ) → ((from ≤ k) × (k < from + n)) ⊎ Outside from n k
inside_or_outside from n k = ⊎_elim (λ below. inr (inl below)) (λ above. ⊎_elim (λ low. inl (above, low)) (λ past. inr (inr past)) (cases_lt k (from + n))) (cases_lt k from)

-- An item of a list of which n were replaced, where it is one of these, and where it is not.
pub filled_in : {X : Type 0} (xs : List X) (from n : ℕ) (x : X) (k : ℕ) → from ≤ k → k < from + n → k < length xs → slice_get (filled xs from n x) k ≡ Some x
unfolding filled
filled_in xs from zero x k low high there = absurd (none low high)
  where
    none : from ≤ k → k < from + 0 → ⊥
    none l h = omega (arith, l, h)
filled_in xs from (suc n) x k low high there = ⊎_elim
    (λ before. get_set_other (filled xs from n x) (from + n) k x (λ same. omega (arith, before, same)) ∙ filled_in xs from n x k low before there)
    (λ last. let here : from + n ≡ k = omega (arith, last, high) in
    ap (λ j. slice_get (set (filled xs from n x) j x) k) here ∙ get_set_same (filled xs from n x) k x (omega (arith, there, length_filled xs from n x)))
    (cases_lt k (from + n))

pub filled_out : {X : Type 0} (xs : List X) (from n : ℕ) (x : X) (k : ℕ) → Outside from n k → slice_get (filled xs from n x) k ≡ slice_get xs k
unfolding filled
filled_out xs from zero x k apart = refl
filled_out xs from (suc n) x k apart = get_set_other (filled xs from n x) (from + n) k x (other apart) ∙ filled_out xs from n x k (wider apart)
  where
    other : Outside from (suc n) k → k ≡ from + n → ⊥
    other (inl below) same = omega (arith, below, same)
    other (inr above) same = omega (arith, above, same)

    wider : Outside from (suc n) k → Outside from n k
    wider (inl below) = inl below
    wider (inr above) = inr (omega (arith, above))

-- The same of words.
pub zeroed_in : (ws : List ℕ) (from n k : ℕ) → from ≤ k → k < from + n → slice_index (filled ws from n 0) k ≡ 0
unfolding filled
zeroed_in ws from zero k low high = absurd (none low high)
  where
    none : from ≤ k → k < from + 0 → ⊥
    none l h = omega (arith, l, h)
zeroed_in ws from (suc n) k low high = ⊎_elim
    (λ before. get_or-set_other (filled ws from n 0) (from + n) k 0 0 (λ same. omega (arith, before, same)) ∙ zeroed_in ws from n k low before)
    (λ last. let here : from + n ≡ k = omega (arith, last, high) in
    ap (λ j. slice_index (set (filled ws from n 0) j 0) k) here ∙ put_zero (filled ws from n 0) (cases_lt k (length (filled ws from n 0))))
    (cases_lt k (from + n))
  where
    put_zero : (vs : List ℕ) → (k < length vs) ⊎ (length vs ≤ k) → slice_index (set vs k 0) k ≡ 0
    put_zero vs (inl there) = get_or-set_same vs k 0 0 there
    put_zero vs (inr past) = get_or-eq_default (set vs k 0) 0 (omega (arith, past, length-set vs k 0))

pub zeroed_out : (ws : List ℕ) (from n k : ℕ) → Outside from n k → slice_index (filled ws from n 0) k ≡ slice_index ws k
unfolding filled
zeroed_out ws from zero k apart = refl
zeroed_out ws from (suc n) k apart = get_or-set_other (filled ws from n 0) (from + n) k 0 0 (other apart) ∙ zeroed_out ws from n k (wider apart)
  where
    other : Outside from (suc n) k → k ≡ from + n → ⊥
    other (inl below) same = omega (arith, below, same)
    other (inr above) same = omega (arith, above, same)

    wider : Outside from (suc n) k → Outside from n k
    wider (inl below) = inl below
    wider (inr above) = inr (omega (arith, above))

-- A word that is put is there, in a list as long.
pub set_in : (ws : List ℕ) (k v : ℕ) → k < length ws → slice_index (set ws k v) k ≡ v
set_in ws k v there = get_or-set_same ws k v 0 there

pub set_out : (ws : List ℕ) (i v k : ℕ) → (k ≡ i → ⊥) → slice_index (set ws i v) k ≡ slice_index ws k
set_out ws i v k apart = get_or-set_other ws i k v 0 apart

-- A word none of whose bytes were put is as it was; and where two lists have one word, they have one still, whatever bytes are put into both.
pub bytes_out : (ws : List ℕ) (p : ℕ) (bs : List ℕ) (k : ℕ) → (8 * k + 8 ≤ p) ⊎ (p + length bs ≤ 8 * k) → slice_index (put_bytes ws p bs) k ≡ slice_index ws k
unfolding put_bytes
bytes_out ws p [] k apart = refl
bytes_out ws p (b ∷ bs) k apart = bytes_out (put_byte ws p b) (p + 1) bs k (behind apart) ∙ get_or-set_other ws (p / 8) k _ 0 (other apart)
  where
    behind : (8 * k + 8 ≤ p) ⊎ (p + suc (length bs) ≤ 8 * k) → (8 * k + 8 ≤ p + 1) ⊎ (p + 1 + length bs ≤ 8 * k)
    behind (inl below) = inl (omega (arith, below))
    behind (inr above) = inr (omega (arith, above))

    other : (8 * k + 8 ≤ p) ⊎ (p + suc (length bs) ≤ 8 * k) → k ≡ p / 8 → ⊥
    other (inl below) same = omega (arith, below, same)
    other (inr above) same = omega (arith, above, same)

pub bytes_alike : (ws vs : List ℕ) (p : ℕ) (bs : List ℕ) (k : ℕ) → length ws ≡ length vs → slice_index ws k ≡ slice_index vs k → slice_index (put_bytes ws p bs) k ≡ slice_index (put_bytes vs p bs) k
unfolding put_bytes
bytes_alike ws vs p [] k long same = same
bytes_alike ws vs p (b ∷ bs) k long same = bytes_alike (put_byte ws p b) (put_byte vs p b) (p + 1) bs k (length-set ws (p / 8) _ ∙ long ∙ sym (length-set vs (p / 8) _)) (⊎_elim here (λ apart. get_or-set_other ws (p / 8) k _ 0 (other apart) ∙ same ∙ sym (get_or-set_other vs (p / 8) k _ 0 (other apart))) (cases_order k (p / 8)))
  where
    other : (k < p / 8) ⊎ (p / 8 < k) → k ≡ p / 8 → ⊥
    other (inl below) e = omega (arith, below, e)
    other (inr above) e = omega (arith, above, e)

    here : k ≡ p / 8 → slice_index (put_byte ws p b) k ≡ slice_index (put_byte vs p b) k
    here e = ⊎_elim
        (λ there. ap (slice_index (put_byte ws p b)) e
        ∙ get_or-set_same ws (p / 8) _ 0 (omega (arith, there, e))
        ∙ ap (λ w. first (set (bytes_of w) (p % 8) b)) (ap (slice_index ws) (sym e) ∙ same ∙ ap (slice_index vs) e)
        ∙ sym (get_or-set_same vs (p / 8) _ 0 (omega (arith, there, e, long)))
        ∙ sym (ap (slice_index (put_byte vs p b)) e))
        (λ past. get_or-eq_default (put_byte ws p b) 0 (omega (arith, past, length-set ws (p / 8) (first (set (bytes_of (slice_index ws (p / 8))) (p % 8) b))))
        ∙ sym (get_or-eq_default (put_byte vs p b) 0 (omega (arith, past, long, length-set vs (p / 8) (first (set (bytes_of (slice_index vs (p / 8))) (p % 8) b))))))
        (cases_lt k (length ws))

-- Two lists have the same words in a frame.
abbrev pub SameFrame : List ℕ → List ℕ → ℕ → Type 0
SameFrame ws vs frame = (index : ℕ) → index < 512 → entry_at ws frame index ≡ entry_at vs frame index

-- So many words from places on are the same.
pub words_same : (ws vs : List ℕ) (at n : ℕ) → ((k : ℕ) → at ≤ k → k < at + n → slice_index ws k ≡ slice_index vs k) → words_from ws at n ≡ words_from vs at n
words_same ws vs at n each = same_number_lists (words_from ws at n) (words_from vs at n)
    (length-map-range_with_len (slice_index ws) at n ∙ sym (length-map-range_with_len (slice_index vs) at n))
    (λ k low. let here : k < n = omega (arith, low, length-map-range_with_len (slice_index ws) at n) in
    get_or-map-range_with_len (slice_index ws) at n k (at + k) 0 here refl
    ∙ each (at + k) (omega arith) (omega (arith, here))
    ∙ sym (get_or-map-range_with_len (slice_index vs) at n k (at + k) 0 here refl))

pub frame_same : (ws vs : List ℕ) (frame : ℕ) → SameFrame ws vs frame → frame_words ws frame ≡ frame_words vs frame
frame_same ws vs frame same = words_same ws vs (512 * frame) 512 (λ k low high.
    let here : 512 * frame + (k - 512 * frame) ≡ k = omega (arith, low) in
    ap (slice_index ws) (sym here) ∙ same (k - 512 * frame) (omega (arith, low, high)) ∙ ap (slice_index vs) here)

-- So a scan of one frame passes where that of the other does.
pub scan_same : (ws vs : List ℕ) (frame : ℕ) → SameFrame ws vs frame → scanned vs frame ≡ scanned ws frame
unfolding scanned
scan_same ws vs frame same = ap (λ words. passing (bytes_of_words words)) (sym (frame_same ws vs frame same))

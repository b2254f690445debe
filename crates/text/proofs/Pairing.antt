-- Hexadecimal digits read two at a time give the bytes that they write.
use Rattle.std.proofs.Common.{◌≡◌, ℕ, zero, suc, ◌*◌, ◌/◌, ◌%◌, List, [], ◌∷◌, ◌++◌, length, get_or, Some, None, Option, true, false, ◌&&◌, is_some, sym, refl, ap, ◌∙◌, append_assoc, append-nil, arith}
use Rattle.std.specs.Option.{option_and_then, option_map}
use Rattle.std.specs.List.{list_all}
use Rattle.std.specs.Simd.{first_chunks}
use Rattle.std.proofs.lemmas.Bool.{false≢true}
use Rattle.text.specs.Numbers.{pair_of, pairs_of, writes_byte}
use Rattle.text.proofs.Reading.{and_then_none}

-- an odd count of digits writes no bytes
pub odd_none : (ds : List ℕ) → (length ds % 2 ≡ 0 → ⊥) → pairs_of ds ≡ None
odd_none [] odd = absurd (odd refl)
odd_none (c ∷ []) odd = refl
odd_none (c ∷ d ∷ cs) odd = and_then_none _ (pair_of c d) (λ b. ap (option_map (λ bs. b ∷ bs)) (odd_none cs (λ e. odd (omega arith))))

-- pairs of digits read behind the bytes bs
abbrev pub read_on_pairs : List ℕ → List (List ℕ) → Option (List ℕ)
read_on_pairs bs [] = Some bs
read_on_pairs bs (p ∷ ps) = option_and_then (λ b. read_on_pairs (bs ++ b ∷ []) ps) (pair_of (get_or p 0 0) (get_or p 1 0))

-- one more byte behind bs goes before the bytes to come
behind : (bs : List ℕ) (b : ℕ) (o : Option (List ℕ)) → option_map (λ cs. (bs ++ b ∷ []) ++ cs) o ≡ option_map (λ cs. bs ++ cs) (option_map (λ cs. b ∷ cs) o)
behind bs b None = refl
behind bs b (Some cs) = ap Some (append_assoc bs (b ∷ []) cs)

-- k pairs of digits, read behind bs
pairs_read : (bs ds : List ℕ) (k : ℕ) → length ds ≡ k * 2 → read_on_pairs bs (first_chunks 2 k ds) ≡ option_map (λ cs. bs ++ cs) (pairs_of ds)
pairs_read bs [] zero e = ap Some (sym (append-nil bs))
pairs_read bs (c ∷ ds) zero e = absurd (omega arith)
pairs_read bs [] (suc k) e = absurd (omega arith)
pairs_read bs (c ∷ []) (suc k) e = absurd (omega arith)
pairs_read bs (c ∷ d ∷ ds) (suc k) e = each (pair_of c d) (λ b. pairs_read (bs ++ b ∷ []) ds k (omega arith) ∙ behind bs b (pairs_of ds))
  where
    each : (o : Option ℕ) → ((b : ℕ) → read_on_pairs (bs ++ b ∷ []) (first_chunks 2 k ds) ≡ option_map (λ cs. bs ++ cs) (option_map (λ cs. b ∷ cs) (pairs_of ds)))
        → option_and_then (λ b. read_on_pairs (bs ++ b ∷ []) (first_chunks 2 k ds)) o ≡ option_map (λ cs. bs ++ cs) (option_and_then (λ b. option_map (λ cs. b ∷ cs) (pairs_of ds)) o)
    each None same = refl
    each (Some b) same = same b

-- something is read exactly where each pair writes a byte
reads_where : (bs : List ℕ) (ps : List (List ℕ)) → is_some (read_on_pairs bs ps) ≡ list_all writes_byte ps
reads_where bs [] = refl
reads_where bs (p ∷ ps) = step (pair_of (get_or p 0 0) (get_or p 1 0)) (λ b. reads_where (bs ++ b ∷ []) ps)
  where
    step : (o : Option ℕ) → ((b : ℕ) → is_some (read_on_pairs (bs ++ b ∷ []) ps) ≡ list_all writes_byte ps) → is_some (option_and_then (λ b. read_on_pairs (bs ++ b ∷ []) ps) o) ≡ (is_some o && list_all writes_byte ps)
    step None each = refl
    step (Some b) each = each b

-- two to each byte, all digits are read
pub all_pairs : (ds : List ℕ) → length ds % 2 ≡ 0 → read_on_pairs [] (first_chunks 2 (length ds / 2) ds) ≡ pairs_of ds
all_pairs ds even = pairs_read [] ds (length ds / 2) (omega arith) ∙ same (pairs_of ds)
  where
    same : (o : Option (List ℕ)) → option_map (λ cs. [] ++ cs) o ≡ o
    same None = refl
    same (Some cs) = refl

-- so the digits write bytes exactly where each pair does
some_where : (ds : List ℕ) → length ds % 2 ≡ 0 → is_some (pairs_of ds) ≡ list_all writes_byte (first_chunks 2 (length ds / 2) ds)
some_where ds even = ap is_some (sym (all_pairs ds even)) ∙ reads_where [] (first_chunks 2 (length ds / 2) ds)

pub all_write : (ds : List ℕ) → length ds % 2 ≡ 0 → list_all writes_byte (first_chunks 2 (length ds / 2) ds) ≡ true → is_some (pairs_of ds) ≡ true
all_write ds even each = some_where ds even ∙ each

pub one_writes_none : (ds : List ℕ) → length ds % 2 ≡ 0 → list_all writes_byte (first_chunks 2 (length ds / 2) ds) ≡ false → pairs_of ds ≡ None
one_writes_none ds even not_each = none (pairs_of ds) (some_where ds even ∙ not_each)
  where
    none : (o : Option (List ℕ)) → is_some o ≡ false → o ≡ None
    none None e = refl
    none (Some bs) e = absurd (false≢true (sym e))

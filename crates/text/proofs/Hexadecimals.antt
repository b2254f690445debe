-- The hexadecimal digits of numbers and bytes, as the library writes them.
use Rattle.std.proofs.Common.{◌≡◌, ℕ, zero, suc, ◌+◌, ◌*◌, ◌/◌, ◌%◌, ◌^◌, ◌<◌, true, false, List, [], ◌∷◌, ◌++◌, length, map, get_or, set, take, drop}
use Rattle.std.proofs.Common.{sym, ap, ◌∙◌, ⊎_elim, append_assoc, append-nil, arith}
use Rattle.std.specs.Prelude.{codes, ◌==◌}
use Rattle.std.specs.Simd.{first_chunks}
use Rattle.std.specs.declared.fmt.Formatter.{Formatter}
use Rattle.std.specs.List.{flat_map}
use Rattle.std.proofs.Output.{has_written_of_eq, has_written_append}
use Rattle.std.specs.Fmt.{HasWritten, digits, digits_onto}
use Rattle.std.specs.Int.Digits.{digits_of}
use Rattle.std.proofs.Math.Nat.{pow-suc}
use Rattle.std.proofs.lemmas.Int.Digits.{digits_of_step}
use Rattle.std.proofs.lemmas.Grind.{flat_map-append, take-set_at}
use Rattle.std.proofs.lemmas.List.{map_push, take_more, take_more_set, take-append-drop, take-take, flat_map_more, length-set, drop-drop, drop-take}
use Rattle.std.proofs.lemmas.Bool.{cond-true, cond-false, eq-eqb, ne_eqb, cases_eq}
use Rattle.text.specs.Texts.{hex_digit, two_digits, hexadecimal, hex_bytes}

-- the digits of a number above 0 end with its last digit
last_digit : (n : ℕ) → 0 < n → map hex_digit (digits_of 16 n) ≡ map hex_digit (digits_of 16 (n / 16)) ++ hex_digit (n % 16) ∷ []
last_digit n some = ap (map hex_digit) (digits_of_step 16 n (omega arith) some) ∙ map_push hex_digit (digits_of 16 (n / 16)) (n % 16)

-- k digits or fewer, written from the last one on
written : (k n : ℕ) (behind : List ℕ) → 0 < n → n < 16 ^ k → digits_onto k 16 true n behind ≡ map hex_digit (digits_of 16 n) ++ behind
written zero n behind some small = absurd (omega arith)
written (suc k) n behind some small =
    ⊎_elim
    (λ none.
    cond-true _ _ _ (eq-eqb (n / 16) 0 none)
    ∙ sym (ap (λ l. l ++ behind) (last_digit n some ∙ ap (λ m. map hex_digit (digits_of 16 m) ++ hex_digit (n % 16) ∷ []) none)))
    (λ more.
    cond-false _ _ _ (ne_eqb (n / 16) 0 more)
    ∙ written k (n / 16) (hex_digit (n % 16) ∷ behind) (omega arith) (omega (arith, pow-suc 16 k))
    ∙ sym (append_assoc (map hex_digit (digits_of 16 (n / 16))) (hex_digit (n % 16) ∷ []) behind)
    ∙ sym (ap (λ l. l ++ behind) (last_digit n some)))
    (cases_eq (n / 16) 0)

-- what the library writes of a number in upper-case hexadecimal
pub written_in_full : (n : ℕ) → n < 2 ^ 64 → digits 16 true n ≡ hexadecimal n
unfolding digits hexadecimal
written_in_full n small =
    ⊎_elim
    (λ none. ap (λ m. digits_onto 64 16 true m []) none ∙ sym (cond-true _ _ _ (eq-eqb n 0 none)))
    (λ some. written 64 n [] (omega arith) (omega arith) ∙ append-nil (map hex_digit (digits_of 16 n)) ∙ sym (cond-false _ _ _ (ne_eqb n 0 some)))
    (cases_eq n 0)

-- the two digits of one more byte, put behind those of the first i
pub one_more_put : (text bs : List ℕ) (i : ℕ) → i < length bs → 2 * i + 1 < length text → take (2 * i) text ≡ flat_map two_digits (take i bs)
    → take (2 * (i + 1)) (set (set text (2 * i) (hex_digit (get_or bs i 0 / 16))) (2 * i + 1) (hex_digit (get_or bs i 0 % 16)))
    ≡ flat_map two_digits (take (i + 1) bs)
one_more_put text bs i within room front =
    let high = hex_digit (get_or bs i 0 / 16) in
    let low = hex_digit (get_or bs i 0 % 16) in
    let first = set text (2 * i) high in
    take-set_at first (2 * i + 1) (2 * (i + 1)) low (omega arith) (omega (arith, length-set text (2 * i) high))
    ∙ ap (λ l. l ++ low ∷ []) (take_more_set text (2 * i) high (omega arith) ∙ ap (λ l. l ++ high ∷ []) front)
    ∙ append_assoc (flat_map two_digits (take i bs)) (high ∷ []) (low ∷ [])
    ∙ flat_map_more two_digits [] (take i bs) (get_or bs i 0)
    ∙ ap (flat_map two_digits) (sym (take_more bs i 0 within))

-- one of the runs that a list is cut into
run_at : (n k i : ℕ) (list d : List ℕ) → i < k → get_or (first_chunks n k list) i d ≡ take n (drop (n * i) list)
run_at n zero i list d low = absurd (omega arith)
run_at n (suc k) zero list d low = let none : 0 ≡ n * 0 = omega arith in ap (λ m. take n (drop m list)) none
run_at n (suc k) (suc i) list d low =
    let next : n + n * i ≡ n * suc i = omega arith in
    run_at n k i (drop n list) d (omega arith) ∙ ap (take n) (drop-drop (n * i) n list) ∙ ap (λ m. take n (drop m list)) next

-- the bytes of the first runs, with those of one more
one_more_run : (bs : List ℕ) (i : ℕ) → take (32 * i) bs ++ take 32 (drop (32 * i) bs) ≡ take (32 * (i + 1)) bs
one_more_run bs i =
    let more : 32 * i + 32 ≡ 32 * (i + 1) = omega arith in
    ap (λ l. take (32 * i) bs ++ l) (sym (drop-take (32 * i) 32 bs))
    ∙ ap (λ l. l ++ drop (32 * i) (take (32 * i + 32) bs)) (sym (take-take (32 * i) (32 * i + 32) bs (omega arith)))
    ∙ take-append-drop (32 * i) (take (32 * i + 32) bs)
    ∙ ap (λ m. take m bs) more

-- the digits of one more run, behind those of the first
pub more_written : {W : Type 0} (took : W → List ℕ → W → Type 0) (f g h : Formatter W) (bs run : List ℕ) (k i : ℕ) → i < k
    → run ≡ get_or (first_chunks 32 k bs) i run
    → HasWritten took f (flat_map two_digits (take (32 * i) bs)) g → HasWritten took g (flat_map two_digits run) h
    → HasWritten took f (flat_map two_digits (take (32 * (i + 1)) bs)) h
more_written took f g h bs run k i within is front back =
    let e = ap (λ l. flat_map two_digits (take (32 * i) bs) ++ flat_map two_digits l) (is ∙ run_at 32 k i bs run within)
    ∙ sym (flat_map-append two_digits (take (32 * i) bs) (take 32 (drop (32 * i) bs)))
    ∙ ap (flat_map two_digits) (one_more_run bs i) in
    has_written_of_eq _ _ _ _ _ e (has_written_append _ _ _ _ _ _ front back)

-- the digits of the bytes behind all runs, behind theirs
pub rest_written : {W : Type 0} (took : W → List ℕ → W → Type 0) (f g h : Formatter W) (bs rest : List ℕ) (k i : ℕ)
    → (length bs == 0) ≡ false → i ≡ k → rest ≡ drop (k * 32) bs
    → HasWritten took f (flat_map two_digits (take (32 * i) bs)) g → HasWritten took g (flat_map two_digits rest) h → HasWritten took f (hex_bytes bs) h
rest_written took f g h bs rest k i some all is front back =
    let swap : k * 32 ≡ 32 * i = omega arith in
    let e = ap (λ l. flat_map two_digits (take (32 * i) bs) ++ flat_map two_digits l) (is ∙ ap (λ m. drop m bs) swap)
    ∙ sym (flat_map-append two_digits (take (32 * i) bs) (drop (32 * i) bs))
    ∙ ap (flat_map two_digits) (take-append-drop (32 * i) bs)
    ∙ sym (cond-false (length bs == 0) (codes "-") (flat_map two_digits bs) some) in
    has_written_of_eq _ _ _ _ _ e (has_written_append _ _ _ _ _ _ front back)

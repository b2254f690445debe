-- Digits that were printed are read as the number, and as the bytes, that they were printed for.
use Rattle.std.proofs.Common.{◌≡◌, ℕ, ◌+◌, ◌*◌, ◌/◌, ◌%◌, ◌^◌, ◌<◌, eqb, List, [], ◌∷◌, map, length, Some, None, decimal, Option, sym, refl, ap, ◌∙◌, ⊎_elim, arith}
use Rattle.std.specs.List.{flat_map, AllByRecursion}
use Rattle.std.specs.Option.{SomeIff, option_and_then, option_map}
use Rattle.std.specs.Str.Parse.{AllDigits, IsNumeral, digits_value}
use Rattle.std.specs.Char.{digit_value}
use Rattle.std.specs.Int.Digits.{digits_of, number_from_digits, AllBelowBase}
use Rattle.std.proofs.lemmas.Fmt.{decimal_is_IsNumeral}
use Rattle.std.proofs.lemmas.Int.Digits.{length-digits_of_step, all_below_base_digits_of, number_digits_of, digits_value_is}
use Rattle.std.proofs.lemmas.List.{length-map}
use Rattle.std.proofs.lemmas.Bool.{cond-true, cond-false, eq-eqb, ne_eqb, lt-ltb, and_from, and_right, cases_eq}
use Rattle.std.proofs.lemmas.Bool.Decides.{nat_tests}
use Rattle.text.specs.Numbers.{pair_of, pairs_of, number_of, bytes_of, Number}
use Rattle.text.specs.Texts.{hex_digit, hexadecimal, two_digits, hex_bytes}
use Rattle.text.proofs.Reading.{number_means}

there : (P : Type 0) (v : ℕ) (o : Option ℕ) → SomeIff o P v → P → o ≡ Some v
there P v None h p = absurd (h p)
there P v (Some x) h p = ap Some h.1

-- digits that write n are read as n
numeral_back : (radix n : ℕ) (w : List ℕ) → IsNumeral radix w → digits_value radix w ≡ n → n < 2 ^ 64 → number_of radix w ≡ Some n
numeral_back radix n w ds is small = there (Number radix w) (digits_value radix w) (number_of radix w) (number_means radix w (number_of radix w) refl) (ds, omega arith) ∙ ap Some is

pub decimal_back : (n : ℕ) → n < 2 ^ 64 → number_of 10 (decimal n) ≡ Some n
decimal_back n small = let r = decimal_is_IsNumeral n small in numeral_back 10 n (decimal n) r.0 r.1 small

digit_back : (d : ℕ) → d < 16 → digit_value (hex_digit d) ≡ d
digit_back d small = grind (arith, nat_tests)

digits_back : (ds : List ℕ) → AllBelowBase 16 ds → map digit_value (map hex_digit ds) ≡ ds
digits_back [] u = refl
digits_back (d ∷ ds) u = ap (λ e. e ∷ map digit_value (map hex_digit ds)) (digit_back d u.0) ∙ ap (λ l. d ∷ l) (digits_back ds u.1)

digits_read : (ds : List ℕ) → AllBelowBase 16 ds → AllDigits 16 (map hex_digit ds)
digits_read [] u = tt
digits_read (d ∷ ds) u = (omega (arith, digit_back d u.0, u.0), digits_read ds u.1)

pub hexadecimal_back : (n : ℕ) → n < 2 ^ 64 → number_of 16 (hexadecimal n) ≡ Some n
unfolding hexadecimal
hexadecimal_back n small =
    ⊎_elim
    (λ zero. ap (number_of 16) (cond-true _ _ _ (eq-eqb n 0 zero)) ∙ ap Some (sym zero))
    (λ some.
    let under = all_below_base_digits_of 16 n (omega arith) in
    let long = length-digits_of_step 16 n (omega arith) (omega arith) in
    let same = length-map (digits_of 16 n) hex_digit in
    let is = digits_value_is 16 (map hex_digit (digits_of 16 n)) ∙ ap (number_from_digits 16) (digits_back (digits_of 16 n) under) ∙ number_digits_of 16 n (omega arith) in
    ap (number_of 16) (cond-false _ _ _ (ne_eqb n 0 some)) ∙ numeral_back 16 n (map hex_digit (digits_of 16 n)) (omega arith, digits_read (digits_of 16 n) under) is small)
    (cases_eq n 0)

pairs_back : (bs : List ℕ) → AllByRecursion (λ b. b < 256) bs → pairs_of (flat_map two_digits bs) ≡ Some bs
pairs_back [] all = refl
pairs_back (b ∷ bs) all =
    let byte : b < 256 = all.0 in
    let high = digit_back (b / 16) (omega arith) in
    let low = digit_back (b % 16) (omega arith) in
    let whole : digit_value (hex_digit (b / 16)) * 16 + digit_value (hex_digit (b % 16)) ≡ b = omega arith in
    let read : pair_of (hex_digit (b / 16)) (hex_digit (b % 16)) ≡ Some b = cond-true _ _ _ (and_from _ _ (lt-ltb (digit_value (hex_digit (b / 16))) 16 (omega arith)) (lt-ltb (digit_value (hex_digit (b % 16))) 16 (omega arith))) ∙ ap Some whole in
    ap (option_and_then (λ c. option_map (λ cs. c ∷ cs) (pairs_of (flat_map two_digits bs)))) read ∙ ap (option_map (λ cs. b ∷ cs)) (pairs_back bs all.1)

pub bytes_back : (bs : List ℕ) → AllByRecursion (λ b. b < 256) bs → bytes_of (hex_bytes bs) ≡ Some bs
bytes_back [] all = refl
bytes_back (b ∷ bs) all =
    ap bytes_of (cond-false _ _ _ (ne_eqb (length (b ∷ bs)) 0 (λ e. omega arith)))
    ∙ cond-false _ _ _ (and_right (eqb (hex_digit (b / 16)) 45) _ refl)
    ∙ cond-false _ _ _ (ne_eqb (length (flat_map two_digits (b ∷ bs))) 0 (λ e. omega arith))
    ∙ pairs_back (b ∷ bs) all

-- Digits read one at a time give the number that they write.
use Rattle.std.proofs.Common.{◌≡◌, ℕ, ◌+◌, ◌*◌, ◌^◌, ◌<◌, ◌≤◌, List, [], ◌∷◌, length, get_or, drop, Some, None, Option, sym, refl, ap, ◌∙◌, subst, ⊎_elim, mul-le-mul_left, arith}
use Rattle.std.specs.Option.{SomeIff, option_and_then}
use Rattle.std.specs.Str.Parse.{AllDigits, digits_value_after, digits_value}
use Rattle.std.specs.Char.{digit_value}
use Rattle.std.proofs.lemmas.List.{at_drop_more}
use Rattle.std.proofs.lemmas.Bool.{cases_lt, cond-true, cond-false, lt-ltb, le-ltb, ne_eqb}
use Rattle.text.specs.Numbers.{base, digit_of, reads_on, number_of, Number}
use Rattle.text.specs.declared.numbers.Radix.{Radix}
use Rattle.text.specs.declared.numbers.Radix.TheVariants.{Decimal, Hexadecimal}

-- nothing comes of going on where each way ends in nothing
pub and_then_none : {A B : Type 0} (f : A → Option B) (o : Option A) → ((a : A) → f a ≡ None) → option_and_then f o ≡ None
and_then_none f None none = refl
and_then_none f (Some a) none = none a

-- a number grows, or stays, with each digit behind it
grows : (radix n d : ℕ) → 1 ≤ radix → n ≤ n * radix + d
grows radix n d h = omega (arith, mul-le-mul_left n h)

-- a front of 2 ^ 64 or more is refused, whatever follows
pub too_large : (radix n : ℕ) (cs : List ℕ) → 1 ≤ radix → 2 ^ 64 ≤ n → reads_on radix n cs ≡ None
too_large radix n [] h big = cond-false _ _ _ (le-ltb n (2 ^ 64) big)
too_large radix n (c ∷ cs) h big = and_then_none _ (digit_of radix c) (λ d. too_large radix (n * radix + d) cs h (omega (arith, grows radix n d h)))

-- what is read behind n is the number, exactly where there is one
reads_on_means : (radix n : ℕ) (cs : List ℕ) → SomeIff (reads_on radix n cs) (AllDigits radix cs × (digits_value_after radix n cs < 2 ^ 64)) (digits_value_after radix n cs)
reads_on_means radix n [] =
    let P : Option ℕ → Type 0 = λ r. SomeIff r (Unit {0} × (n < 2 ^ 64)) n in
    ⊎_elim
    (λ lt. subst P (sym (cond-true _ _ _ (lt-ltb n (2 ^ 64) lt))) ((tt, lt), refl))
    (λ le. subst P (sym (cond-false _ _ _ (le-ltb n (2 ^ 64) le))) (λ p. omega (arith, p.1)))
    (cases_lt n (2 ^ 64))
reads_on_means radix n (c ∷ cs) =
    let m : ℕ = n * radix + digit_value c in
    let P : Option ℕ → Type 0 = λ o. SomeIff (option_and_then (λ d. reads_on radix (n * radix + d) cs) o) (((digit_value c < radix) × AllDigits radix cs) × (digits_value_after radix m cs < 2 ^ 64)) (digits_value_after radix m cs) in
    ⊎_elim
    (λ lt. subst P (sym (cond-true _ _ _ (lt-ltb _ _ lt))) (also _ _ _ _ lt (reads_on radix m cs) (reads_on_means radix m cs)))
    (λ le. subst P (sym (cond-false _ _ _ (le-ltb _ _ le))) (λ p. omega (arith, p.0.0)))
    (cases_lt (digit_value c) radix)
  where
    also : (A B C : Type 0) (v : ℕ) → A → (r : Option ℕ) → SomeIff r (B × C) v → SomeIff r ((A × B) × C) v
    also A B C v a None h = λ p. h (p.0.1, p.1)
    also A B C v a (Some x) h = (((a, h.0.0), h.0.1), h.1)

-- a word writes a number exactly where it is one
number_of_means : (radix : ℕ) (w : List ℕ) → SomeIff (number_of radix w) (Number radix w) (digits_value radix w)
number_of_means radix [] = λ p. omega (arith, p.0.0)
number_of_means radix (c ∷ cs) =
    let P : Option ℕ → Type 0 = λ r. SomeIff r (Number radix (c ∷ cs)) (digits_value radix (c ∷ cs)) in
    subst P (sym (cond-false _ _ _ (ne_eqb (length (c ∷ cs)) 0 (λ e. omega arith)))) (some (reads_on radix 0 (c ∷ cs)) (reads_on_means radix 0 (c ∷ cs)))
  where
    some : (r : Option ℕ) → SomeIff r (AllDigits radix (c ∷ cs) × (digits_value radix (c ∷ cs) < 2 ^ 64)) (digits_value radix (c ∷ cs)) → SomeIff r (Number radix (c ∷ cs)) (digits_value radix (c ∷ cs))
    some None h = λ p. h (p.0.1, p.1)
    some (Some x) h = (((omega arith, h.0.0), h.0.1), h.1)

pub number_means : (radix : ℕ) (w : List ℕ) (r : Option ℕ) → r ≡ number_of radix w → SomeIff r (Number radix w) (digits_value radix w)
number_means radix w r e = let P : Option ℕ → Type 0 = λ o. SomeIff o (Number radix w) (digits_value radix w) in subst P (sym e) (number_of_means radix w)

-- with one more digit the number is refused where it is 2 ^ 64 or more
pub overflows : (r : Radix) (n : ℕ) (ds : List ℕ) (i d : ℕ) → i < length ds → Some d ≡ digit_of (base r) (get_or ds i 0) → 2 ^ 64 ≤ n * base r + d → reads_on (base r) n (drop i ds) ≡ None
overflows r n ds i d within is big =
    at_drop_more (reads_on (base r) n) ds i 0 within
    ∙ ap (option_and_then (λ e. reads_on (base r) (n * base r + e) (drop (i + 1) ds))) (sym is)
    ∙ too_large (base r) (n * base r + d) (drop (i + 1) ds) (some_digits r) big
  where
    some_digits : (q : Radix) → 1 ≤ base q
    some_digits Decimal = omega arith
    some_digits Hexadecimal = omega arith

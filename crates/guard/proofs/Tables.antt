-- A record that is changed.
use Rattle.std.proofs.Common.{◌≡◌, ℕ, ◌≤◌, zero, suc, List, ◌∷◌, length, refl, map, replicate, set, take, sym, ap, ◌∙◌, arith, inl, inr}
use Rattle.std.proofs.Math.Seq.{take-set-lt}
use Rattle.std.proofs.lemmas.Bool.{cases_lt}
use Rattle.std.proofs.lemmas.List.{map-set, set_past, take-replicate, take-set-le, length-take}
use Rattle.frames.specs.declared.kinds.FrameKind.TheVariants as kind

-- What is read of records, after one of them was replaced,
pub one_changed : {A B : Type 0} (f : A → B) (xs : List A) (i : ℕ) (x : A) → map f (set xs i x) ≡ set (map f xs) i (f x)
one_changed f xs i x = map-set f xs i x

-- and the first n of a list, after one item of it was.
pub one_among : {A : Type 0} (xs : List A) (n i : ℕ) (x : A) → take n (set xs i x) ≡ set (take n xs) i x
one_among xs n i x = elim (cases_lt i n) [
  | inl inside ↦ take-set-lt n xs i x inside
  | inr past ↦ take-set-le n xs i x past ∙ sym (set_past (take n xs) i x (omega (arith, length-take n xs)))
]

-- Past the end of a list there is nothing to replace.
pub none_past : {A : Type 0} (xs : List A) (n i : ℕ) (x : A) → n ≡ length xs → n ≤ i → xs ≡ set xs i x
none_past xs n i x is past = sym (set_past xs i x (omega (arith, is, past)))

-- What is read of records that are all alike.
pub all_alike : {A B : Type 0} (f : A → B) (n : ℕ) (x : A) → map f (replicate n x) ≡ replicate n (f x)
all_alike f zero x = refl
all_alike f (suc n) x = ap (λ l. f x ∷ l) (all_alike f n x)

-- The kinds of so many plain frames, where there are no more than records.
pub plain_kinds : (frames n : ℕ) → n ≡ frames → n ≤ 256 → take n (replicate 256 kind.Plain) ≡ replicate frames kind.Plain
plain_kinds frames n is few = take-replicate n 256 kind.Plain few ∙ ap (λ k. replicate k kind.Plain) is

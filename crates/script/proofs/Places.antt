-- Places of a list that pass a test, and what is shown of them.
use Rattle.std.proofs.Common.{◌≡◌, ℕ, ◌+◌, Bool, true, false, cond, List, [], ◌∷◌, ◌++◌, map, refl, sym, ap, ◌∙◌, append-nil, arith}
use Rattle.std.specs.List.{filter, flat_map, range_with_len}
use Rattle.std.proofs.lemmas.Grind.{flat_map-append}
use Rattle.std.proofs.lemmas.List.FromFn.{filter_of_map_range_with_len_more}

same_items : (xs : List ℕ) → map (λ x. x) xs ≡ xs
same_items [] = refl
same_items (x ∷ xs) = ap (λ l. x ∷ l) (same_items xs)

-- one more place
more_places : (p : ℕ → Bool) (n : ℕ) → filter p (range_with_len 0 (n + 1)) ≡ filter p (range_with_len 0 n) ++ cond (p n) (n ∷ []) []
more_places p n =
    ap (filter p) (sym (same_items (range_with_len 0 (n + 1))))
    ∙ filter_of_map_range_with_len_more p (λ i. i) 0 n n (omega arith)
    ∙ ap (λ l. filter p l ++ cond (p n) (n ∷ []) []) (same_items (range_with_len 0 n))

module _ (show : ℕ → List ℕ) (p : ℕ → Bool) (n : ℕ) where
  -- what is shown of the places below n
  abbrev pub below_n : List ℕ
  below_n = flat_map show (filter p (range_with_len 0 n))

  abbrev pub below_next : List ℕ
  below_next = flat_map show (filter p (range_with_len 0 (n + 1)))

  -- n does not pass
  pub passed_over : p n ≡ false → below_n ≡ below_next
  passed_over e =
      sym (ap (flat_map show) (more_places p n ∙ ap (λ b. filter p (range_with_len 0 n) ++ cond b (n ∷ []) []) e ∙ append-nil (filter p (range_with_len 0 n))))

  -- n passes
  pub put_in : p n ≡ true → below_n ++ show n ≡ below_next
  put_in e =
      sym
      (ap (flat_map show) (more_places p n ∙ ap (λ b. filter p (range_with_len 0 n) ++ cond b (n ∷ []) []) e)
      ∙ flat_map-append show (filter p (range_with_len 0 n)) (n ∷ [])
      ∙ ap (λ l. below_n ++ l) (append-nil (show n)))

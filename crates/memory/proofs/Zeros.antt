-- A list of noughts shows frames of zeros.
use Rattle.std.proofs.Common.{◌≡◌, ℕ, ◌+◌, ◌-◌, ◌*◌, ◌/◌, ◌<◌, ◌≤◌, min, List, length, get_or, take, replicate, sym, ap, ◌∙◌, arith}
use Rattle.std.proofs.lemmas.Grind.{same_number_lists}
use Rattle.std.proofs.lemmas.List.{take-replicate, drop-replicate, length-replicate, get_or-replicate}
use Rattle.memory.specs.Items.{Shows}
use Rattle.memory.specs.Memories.{frames_in}

module _ {Item : Type 0} {n : ℕ} {word : List Item → ℕ} {items : ℕ → List Item} {nought : Item} {words : List Item → List ℕ} {put : List Item → ℕ → ℕ → List Item}
    (shows : Shows n word items nought words put) (k : ℕ) where
  -- Each word of such a list is the word 0.
  zero_at : (i : ℕ) → i < 512 * frames_in (512 * n) (replicate k nought) → get_or (words (replicate k nought)) i 0 ≡ 0
  zero_at i inside =
      let long : length (replicate k nought) ≡ k = length-replicate k nought in
      let room : n * i + n ≤ k = omega (arith, shows.room (replicate k nought) i inside) in
      let left : n ≤ k - n * i = omega arith in
      shows.item.made (replicate k nought) i inside
      ∙ ap (λ l. word (take n l)) (drop-replicate (n * i) k nought)
      ∙ ap word (take-replicate n (k - n * i) nought left)
      ∙ shows.item.zeros

  pub zeros_shown : (list : List Item) → list ≡ replicate k nought → words list ≡ replicate (512 * min (k / (512 * n)) 256) 0
  zeros_shown list is =
      let frames : frames_in (512 * n) (replicate k nought) ≡ min (k / (512 * n)) 256 = ap (λ m. min (m / (512 * n)) 256) (length-replicate k nought) in
      let long : length (words (replicate k nought)) ≡ 512 * frames_in (512 * n) (replicate k nought) = shows.item.whole (replicate k nought) in
      ap words is
      ∙ same_number_lists (words (replicate k nought)) (replicate (512 * min (k / (512 * n)) 256) 0)
      (long ∙ ap (λ m. 512 * m) frames ∙ sym (length-replicate (512 * min (k / (512 * n)) 256) 0))
      (λ i low. let inside : i < 512 * frames_in (512 * n) (replicate k nought) = omega (arith, long) in
      zero_at i inside ∙ sym (get_or-replicate (512 * min (k / (512 * n)) 256) i 0 0 (omega (arith, frames))))

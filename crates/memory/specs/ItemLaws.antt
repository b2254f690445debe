-- What follows of every kind of item: a list with one word replaced. The trait takes this proof as a value, so it stands here and not
-- among the other proofs.
use Rattle.std.proofs.Common.{◌≡◌, ℕ, suc, ◌+◌, ◌-◌, ◌*◌, ◌/◌, ◌^◌, ◌<◌, ◌≤◌, min, List, length, get_or, take, drop, set, sym, refl, ap, ◌∙◌, inl, inr, ◌⊎◌, mul-le-mul_left, arith, rules}
use borrow.Rule.Slice.PartMut.{put_mid}
use Rattle.std.proofs.lemmas.Bool.{cases_order}
use Rattle.std.proofs.lemmas.Grind.{same_number_lists}
use Rattle.std.proofs.lemmas.List.{places, length-set, get_or-set_same, get_or-set_other, drop-drop, drop-take}
use Rattle.std.proofs.lemmas.Slice.{drop-put_mid, take-put_mid_below, between-put_mid}
use Rattle.std.proofs.Math.Nat.{div-mul-le_self}
use Rattle.memory.specs.Items.{IsItem, Shows, laid, part}
use Rattle.memory.specs.Memories.{behind, frames_in}

-- A list with other items in the place of word i, wherever it has room for them.
module _ {Item : Type 0} (n : ℕ) (list : List Item) (i : ℕ) (items : List Item) where
  -- They stand in the middle of it.
  laid_mid : laid n list i items ≡ put_mid (n * i) n list items
  laid_mid = rw drop-drop refl

  -- It is as long as before,
  pub length-laid : length items ≡ n → n * i + n ≤ length list → length (laid n list i items) ≡ length list
  length-laid long fits = search (rules, places)

  -- the items of word i are those that were laid there,
  pub part_laid : length items ≡ n → n * i + n ≤ length list → part n (laid n list i items) i ≡ items
  part_laid long fits =
      let size : n * i + n - n * i ≡ n = omega arith in
      ap (λ l. take n (drop (n * i) l)) laid_mid
      ∙ ap (λ m. take m (drop (n * i) (put_mid (n * i) n list items))) (sym size)
      ∙ between-put_mid (n * i) n list items (n * i + n) (omega (arith, fits)) (long ∙ sym size)

  -- those of any other word are as they were,
  pub part_beside : (k : ℕ) → length items ≡ n → n * i + n ≤ length list → (k < i) ⊎ (i < k) → part n (laid n list i items) k ≡ part n list k
  part_beside k long fits (inl below) =
      let more : n * suc k ≤ n * i = mul-le-mul_left n below in
      sym (drop-take (n * k) n (laid n list i items))
      ∙ ap (λ l. drop (n * k) (take (n * k + n) l)) laid_mid
      ∙ ap (drop (n * k)) (take-put_mid_below (n * i) n list items (n * k + n) (omega (arith, more)) (omega (arith, fits)))
      ∙ drop-take (n * k) n list
  part_beside k long fits (inr above) =
      let more : n * suc i ≤ n * k = mul-le-mul_left n above in
      ap (take n) (ap (drop (n * k)) laid_mid ∙ drop-put_mid (n * i) n list items (n * k) (omega (arith, more)) (omega (arith, fits)) long)

  -- and so is what lies behind.
  behind_laid : (end : ℕ) → length items ≡ n → n * i + n ≤ length list → n * i + n ≤ end → drop end (laid n list i items) ≡ drop end list
  behind_laid end long fits past = ap (drop end) laid_mid ∙ drop-put_mid (n * i) n list items end past (omega (arith, fits)) long

module _ {Item : Type 0} {n : ℕ} {word : List Item → ℕ} {items : ℕ → List Item} {nought : Item} {words : List Item → List ℕ} {put : List Item → ℕ → ℕ → List Item}
    (item : IsItem n word items nought words put) where
  -- A list has room for the items of each word that it shows.
  room : (list : List Item) (i : ℕ) → i < 512 * frames_in (512 * n) list → n * i + n ≤ length list
  room list i inside =
      let whole : length list / (512 * n) * (512 * n) ≤ length list = div-mul-le_self (length list) (512 * n) in
      let under : i + 1 ≤ length list / (512 * n) * 512 = omega arith in
      let more : n * (i + 1) ≤ n * (length list / (512 * n) * 512) = mul-le-mul_left n under in
      omega (arith, whole, more)

  -- A list with a word put into it is as long as before,
  length-put : (list : List Item) (i w : ℕ) → i < 512 * frames_in (512 * n) list → length (put list i w) ≡ length list
  length-put list i w inside = ap length (item.lays list i w inside) ∙ length-laid n list i (items w) (item.long w) (room list i inside)

  -- so it shows as many frames.
  same : (list : List Item) (i w : ℕ) → i < 512 * frames_in (512 * n) list → frames_in (512 * n) (put list i w) ≡ frames_in (512 * n) list
  same list i w inside = ap (λ k. min (k / (512 * n)) 256) (length-put list i w inside)

  -- What lies behind the frames is as it was.
  rest : (list : List Item) (i w : ℕ) → i < 512 * frames_in (512 * n) list → behind (512 * n) (put list i w) ≡ behind (512 * n) list
  rest list i w inside =
      let end : ℕ = 512 * n * frames_in (512 * n) list in
      let more : n * suc i ≤ n * (512 * frames_in (512 * n) list) = mul-le-mul_left n inside in
      ap (λ k. drop (512 * n * k) (put list i w)) (same list i w inside)
      ∙ ap (drop end) (item.lays list i w inside)
      ∙ behind_laid n list i (items w) end (item.long w) (room list i inside) (omega (arith, more))

  -- The items of word i are those that were put,
  part_put : (list : List Item) (i w : ℕ) → i < 512 * frames_in (512 * n) list → part n (put list i w) i ≡ items w
  part_put list i w inside = ap (λ l. part n l i) (item.lays list i w inside) ∙ part_laid n list i (items w) (item.long w) (room list i inside)

  -- and those of any other word are as they were.
  part_kept : (list : List Item) (i w k : ℕ) → i < 512 * frames_in (512 * n) list → (k < i) ⊎ (i < k) → part n (put list i w) k ≡ part n list k
  part_kept list i w k inside apart =
      ap (λ l. part n l k) (item.lays list i w inside) ∙ part_beside n list i (items w) k (item.long w) (room list i inside) apart

  -- So the word that is put is the one shown there, and no other is altered.
  after : (list : List Item) (i w : ℕ) → i < 512 * frames_in (512 * n) list → w < 2 ^ 64 → words (put list i w) ≡ set (words list) i w
  after list i w inside small = same_number_lists (words (put list i w)) (set (words list) i w) (long ∙ sym (length-set (words list) i w)) each
    where
      long : length (words (put list i w)) ≡ length (words list)
      long = item.whole (put list i w) ∙ ap (λ m. 512 * m) (same list i w inside) ∙ sym (item.whole list)

      each : (k : ℕ) → k < length (words (put list i w)) → get_or (words (put list i w)) k 0 ≡ get_or (set (words list) i w) k 0
      each k low =
          let here : k < 512 * frames_in (512 * n) list = omega (arith, long, item.whole list) in
          let there : k < 512 * frames_in (512 * n) (put list i w) = omega (arith, item.whole (put list i w)) in
          item.made (put list i w) k there
          ∙ elim (cases_order k i) [
            | inl at ↦ ap (λ m. word (part n (put list i w) m)) at
                ∙ ap word (part_put list i w inside)
                ∙ item.back w small
                ∙ sym (ap (λ m. get_or (set (words list) i w) m 0) at ∙ get_or-set_same (words list) i w 0 (omega (arith, item.whole list)))
            | inr apart ↦ ap word (part_kept list i w k inside apart)
                ∙ sym (item.made list k here)
                ∙ sym (get_or-set_other (words list) i k w 0 (omega (arith, apart)))
          ]

  -- So every kind of item shows a memory.
  pub shows : Shows n word items nought words put
  shows = record { item = item; room = room; after = after; rest = rest; same = same }

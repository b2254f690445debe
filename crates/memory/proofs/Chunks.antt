-- A list cut into words.
use Rattle.std.proofs.Common.{◌≡◌, ℕ, zero, suc, ◌+◌, ◌*◌, ◌<◌, List, get_or, take, drop, ap, ◌∙◌, arith}
use Rattle.std.specs.Simd.{first_chunks}
use Rattle.std.proofs.lemmas.List.{drop-drop}
use Rattle.memory.specs.Items.{part}

-- Word i is cut out of its place.
pub chunk_at : {Item : Type 0} (n k i : ℕ) (list : List Item) (d : List Item) → i < k → get_or (first_chunks n k list) i d ≡ part n list i
chunk_at n zero i list d low = absurd (omega arith)
chunk_at n (suc k) zero list d low = let none : 0 ≡ n * 0 = omega arith in ap (λ m. take n (drop m list)) none
chunk_at n (suc k) (suc i) list d low = let next : n + n * i ≡ n * suc i = omega arith in chunk_at n k i (drop n list) d (omega arith) ∙ ap (take n) (drop-drop (n * i) n list) ∙ ap (λ m. take n (drop m list)) next

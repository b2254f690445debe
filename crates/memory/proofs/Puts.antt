-- A word that is a single item, put into a list.
use Rattle.std.proofs.Common.{◌≡◌, ℕ, suc, ◌+◌, ◌*◌, ◌<◌, ◌≤◌, List, [], ◌∷◌, ◌++◌, length, get_or, set, take, drop, sym, ap, ◌∙◌, arith}
use Rattle.std.proofs.lemmas.List.{set_split}
use Rattle.memory.specs.Items.{laid, Shows}
use Rattle.memory.specs.Memories.{frames_in}

-- The list with that item in the place of the word's is the list with the word put into it.
pub one_put : {Item : Type 0} {n : ℕ} {word : List Item → ℕ} {items : ℕ → List Item} {nought : Item} {words : List Item → List ℕ} {put : List Item → ℕ → ℕ → List Item}
    → Shows n word items nought words put → (list : List Item) (i w : ℕ) (made : List Item) (x : Item) → i < 512 * frames_in (512 * n) list
    → made ≡ items w → 1 ≤ length made → length made < 2 → x ≡ get_or made 0 x → set list (n * i) x ≡ put list i w
one_put shows list i w [] x inside is some few first = absurd (omega arith)
one_put {n} shows list i w (y ∷ []) x inside is some few first =
    let fits = shows.room list i inside in
    let one : n ≡ 1 = sym (shows.item.long w) ∙ ap length (sym is) in
    let past : suc (n * i) ≡ n * i + n = omega arith in
    set_split list (n * i) x (omega arith)
    ∙ ap (λ k. take (n * i) list ++ x ∷ drop k list) past
    ∙ ap (λ z. take (n * i) list ++ z ∷ drop (n * i + n) list) first
    ∙ ap (laid n list i) is
    ∙ sym (shows.item.lays list i w inside)
one_put shows list i w (y ∷ z ∷ rest) x inside is some few first = absurd (omega arith)

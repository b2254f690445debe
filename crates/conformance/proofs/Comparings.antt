-- A line agrees exactly where it is the expected one, or that with a place behind it.
use Rattle.std.proofs.Common.{◌≡◌, ℕ, Bool, true, false, ◌&&◌, ◌||◌, ◌==◌, ◌⊎◌, inl, inr, List, [], ◌∷◌, ◌++◌, length, take, refl, sym, subst, ap, ◌∙◌, arith}
use Rattle.std.specs.Prelude.{◌↔◌, IsTrue}
use Rattle.std.specs.Str.{bytes_eq}
use Rattle.std.proofs.Math.Seq.{drop-append_seam, take-append_seam}
use Rattle.std.proofs.lemmas.Bool.{and_parts, false≢true}
use Rattle.std.proofs.lemmas.Bool.Decides.{nat_tests}
use Rattle.std.proofs.lemmas.List.{take-append-drop}
use Rattle.std.proofs.lemmas.Slice.Eq.{bytes_eq-Decides}
use Rattle.conformance.specs.Comparing.{Expected, agrees, behind, is_place}

-- A list with an item is not empty.
has_some : List ℕ → Bool
has_some [] = false
has_some (b ∷ bs) = true

-- Nothing, or a place.
nothing_or_place : (rest : List ℕ) → (length rest == 0 || is_place rest) ≡ true → (rest ≡ []) ⊎ IsTrue (is_place rest)
nothing_or_place [] e = inl refl
nothing_or_place (b ∷ bs) e =
    let long : (length (b ∷ bs) == 0) ≡ false = grind (arith, nat_tests) in
    inr (sym (ap (λ t. t || is_place (b ∷ bs)) long) ∙ e)

so_it_ends : (rest : List ℕ) → (rest ≡ []) ⊎ IsTrue (is_place rest) → (length rest == 0 || is_place rest) ≡ true
unfolding has_some
so_it_ends [] either = refl
so_it_ends (b ∷ bs) (inl e) = absurd (false≢true (sym (ap has_some e)))
so_it_ends (b ∷ bs) (inr e) =
    let long : (length (b ∷ bs) == 0) ≡ false = grind (arith, nat_tests) in
    ap (λ t. t || is_place (b ∷ bs)) long ∙ e

-- What is expected with nothing or a place behind it.
agrees_with : (expected rest : List ℕ) → (rest ≡ []) ⊎ IsTrue (is_place rest) → agrees expected (expected ++ rest) ≡ true
agrees_with expected rest either =
    ap (λ front. bytes_eq front expected && (length (behind expected (expected ++ rest)) == 0 || is_place (behind expected (expected ++ rest)))) (take-append_seam expected rest)
    ∙ ap (λ back. bytes_eq expected expected && (length back == 0 || is_place back)) (drop-append_seam expected rest)
    ∙ ap (λ same. same && (length rest == 0 || is_place rest)) ((bytes_eq-Decides expected expected).1 refl)
    ∙ so_it_ends rest either

pub agrees_means : (expected printed : List ℕ) (answer : Bool) → answer ≡ agrees expected printed → IsTrue answer ↔ Expected expected printed
agrees_means expected printed answer is = (λ holds. to (sym is ∙ holds), λ it. is ∙ from it)
  where
    to : IsTrue (agrees expected printed) → Expected expected printed
    to holds =
        let parts = and_parts (bytes_eq (take (length expected) printed) expected) _ holds in
        record {
          rest = behind expected printed;
          whole = sym (take-append-drop (length expected) printed) ∙ ap (λ front. front ++ behind expected printed) ((bytes_eq-Decides (take (length expected) printed) expected).0 parts.0);
          place = nothing_or_place (behind expected printed) parts.1;
        }

    from : Expected expected printed → IsTrue (agrees expected printed)
    from it = subst (λ line. agrees expected line ≡ true) (sym it.whole) (agrees_with expected it.rest it.place)

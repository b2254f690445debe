-- That words are items of a memory.
use Rattle.std.specs.Prelude.{◌≡◌, ℕ, suc, ◌+◌, ◌*◌, ◌<◌, List, [], ◌∷◌, ◌++◌, take, drop, slice_index, slice_set, refl}
use Rattle.std.proofs.Common.{sym, ap, ◌∙◌, arith}
use Rattle.std.proofs.Math.Seq.{take-set-lt}
use Rattle.std.proofs.lemmas.List.{get_or-drop, get_or-take, length-set, length-take-le, set_split}
use Rattle.memory.specs.Items.{IsItem, part, sole}
use Rattle.memory.specs.Memories.{frames_in, shown}

-- One item of a list, by its place.
one : (list : List ℕ) (i : ℕ) → sole (part 1 list i) ≡ slice_index list i
one list i =
    let here : 1 * i + 0 ≡ i = omega arith in
    get_or-take 1 (drop (1 * i) list) 0 0 (omega arith) ∙ get_or-drop (1 * i) list 0 0 ∙ ap (slice_index list) here

pub word_facts : IsItem 1 sole (λ w. w ∷ []) 0 shown slice_set
word_facts = record {
  some = omega arith;
  few = omega arith;
  zeros = refl;
  long = λ _. refl;
  back = λ _ _. refl;
  whole = λ list. length-take-le (512 * frames_in 512 list) list (omega arith);
  made = λ list i inside. get_or-take _ list i 0 inside ∙ sym (one list i);
  lays = λ list i w inside.
      let at : 1 * i ≡ i = omega arith in
      let past : 1 * i + 1 ≡ suc i = omega arith in
      set_split list i w (omega arith) ∙ ap (λ k. take k list ++ w ∷ drop (suc i) list) (sym at) ∙ ap (λ k. take (1 * i) list ++ w ∷ drop k list) (sym past);
}

-- A word that is put, of whatever size, is the one shown in its place.
pub shown-set : (list : List ℕ) (i v : ℕ) → i < 512 * frames_in 512 list → shown (slice_set list i v) ≡ slice_set (shown list) i v
shown-set list i v inside = simp length-set (take-set-lt (512 * frames_in 512 list) list i v inside)

-- The numbers of a `journal` line.
use Rattle.std.proofs.Common.{◌≡◌, ℕ, Bool, true, false, ◌&&◌, ◌==◌, cond, List, [], ◌∷◌, ◌++◌, length, Some, None, Option, is_some, sym, refl, ap, ◌∙◌, arith}
use Rattle.std.specs.Option.{option_and_then}
use Rattle.std.specs.List.{list_all}
use Rattle.std.proofs.lemmas.Bool.{false≢true}
use Rattle.std.proofs.lemmas.Bool.Decides.{nat_tests}
use Rattle.text.specs.Lines.{words_of}
use Rattle.text.specs.Numbers.{number_of}
use Rattle.script.specs.Commands.{Said, is_hexadecimal, journal, journal_of, numbers_behind, some_numbers}

-- what is some of an option that goes on
goes_on : {A B : Type 0} (o : Option A) (f : A → Option B) (b : Bool) → ((a : A) → is_some (f a) ≡ b) → is_some (option_and_then f o) ≡ (is_some o && b)
goes_on None f b each = refl
goes_on (Some a) f b each = each a

-- words are read exactly where each of them writes a number
numbers_where : (ns : List ℕ) (ws : List (List ℕ)) → is_some (numbers_behind ns ws) ≡ list_all is_hexadecimal ws
unfolding numbers_behind
numbers_where ns [] = refl
numbers_where ns (w ∷ ws) = goes_on (number_of 16 w) (λ n. numbers_behind (ns ++ n ∷ []) ws) (list_all is_hexadecimal ws) (λ n. numbers_where (ns ++ n ∷ []) ws)

-- behind a number there is one
some_behind : (n : ℕ) (ns : List ℕ) (ws : List (List ℕ)) → is_some (option_and_then some_numbers (numbers_behind (n ∷ ns) ws)) ≡ list_all is_hexadecimal ws
unfolding numbers_behind
some_behind n ns [] = let long : (length (n ∷ ns) == 0) ≡ false = grind (arith, nat_tests) in ap (λ b. is_some (cond b None (Some (journal (n ∷ ns))))) long
some_behind n ns (w ∷ ws) = by (number_of 16 w) (λ m. some_behind n (ns ++ m ∷ []) ws)
  where
    by : (o : Option ℕ) → ((m : ℕ) → is_some (option_and_then some_numbers (numbers_behind (n ∷ (ns ++ m ∷ [])) ws)) ≡ list_all is_hexadecimal ws) → is_some (option_and_then some_numbers (option_and_then (λ m. numbers_behind ((n ∷ ns) ++ m ∷ []) ws) o)) ≡ (is_some o && list_all is_hexadecimal ws)
    by None each = refl
    by (Some m) each = each m

-- so a `journal` line is read exactly where there is a word, and each writes a number
pub read_where : (t w : List ℕ) (ws : List (List ℕ)) → words_of t ≡ w ∷ ws → is_some (journal_of t) ≡ list_all is_hexadecimal (words_of t)
unfolding journal_of numbers_behind
read_where t w ws are = ap (λ vs. is_some (option_and_then some_numbers (numbers_behind [] vs))) are ∙ by (number_of 16 w) ∙ sym (ap (list_all is_hexadecimal) are)
  where
    by : (o : Option ℕ) → is_some (option_and_then some_numbers (option_and_then (λ m. numbers_behind (m ∷ []) ws) o)) ≡ (is_some o && list_all is_hexadecimal ws)
    by None = refl
    by (Some m) = some_behind m [] ws

pub none_there : (t : List ℕ) → words_of t ≡ [] → is_some (journal_of t) ≡ false
unfolding journal_of numbers_behind
none_there t are = ap (λ vs. is_some (option_and_then some_numbers (numbers_behind [] vs))) are

pub none_behind : (t : List ℕ) → numbers_behind [] (words_of t) ≡ None → journal_of t ≡ None
unfolding journal_of
none_behind t are = ap (option_and_then some_numbers) are

pub none_read : (t : List ℕ) → is_some (journal_of t) ≡ false → journal_of t ≡ None
none_read t e = by (journal_of t) e
  where
    by : (o : Option Said) → is_some o ≡ false → o ≡ None
    by None e = refl
    by (Some c) e = absurd (false≢true (sym e))

pub read : (t : List ℕ) (ns : List ℕ) → is_some (journal_of t) ≡ true → numbers_behind [] (words_of t) ≡ Some ns → journal_of t ≡ Some (journal ns)
unfolding journal_of
read t ns is are = ap (option_and_then some_numbers) are ∙ by (length ns == 0) (sym (ap (λ o. is_some (option_and_then some_numbers o)) are) ∙ is)
  where
    by : (b : Bool) → is_some (cond b None (Some (journal ns))) ≡ true → cond b None (Some (journal ns)) ≡ Some (journal ns)
    by true e = absurd (false≢true e)
    by false e = refl

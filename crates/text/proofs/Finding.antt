-- The words that lie in a text are those that are found in it.
use Rattle.std.proofs.Common.{◌≡◌, ℕ, zero, suc, ◌+◌, ◌<◌, Bool, true, false, cond, not, ◌⊎◌, inl, inr, List, [], ◌∷◌, ◌++◌, length, get_or, drop, Some, None, Option, MatchOption, Bor, unwrap_or, sym, refl, ap, ◌∙◌, subst, ⊎_elim, arith}
use Rattle.std.specs.Prelude.{⊤}
use Rattle.std.specs.Iterator.{MakesProgress, item_count}
use Rattle.std.specs.List.{prefix_len, position_or_len, before_first, slice_get, AllByRecursion}
use Rattle.std.specs.Option.{option_map}
use Rattle.std.proofs.lemmas.Option.{unwrap_or-slice_get}
use Rattle.std.proofs.lemmas.List.{take_at, drop_at, drop_all}
use Rattle.std.proofs.lemmas.List.Folds.{prefix_len-append}
use Rattle.std.proofs.lemmas.Bool.{cases_Bool, cond-true, eq-eqb, true≢false, not_from_true, not_from_false}
use Rattle.text.specs.Layout.{Blank, Word, Apart, Begins, Laid}
use Rattle.text.specs.Lines.{blank, unindented, first_word, after_word, after_words, word_at, lengthened, lettered, words_of}

-- all of a text passes
all_pass : (p : ℕ → Bool) (xs : List ℕ) → AllByRecursion (λ b. p b ≡ true) xs → prefix_len p xs ≡ length xs
all_pass p [] all = refl
all_pass p (x ∷ xs) all = ap (λ b. cond b (1 + prefix_len p xs) 0) all.0 ∙ omega (arith, all_pass p xs all.1)

-- a run goes on over a front that passes
front_passes : (p : ℕ → Bool) (xs ys : List ℕ) → AllByRecursion (λ b. p b ≡ true) xs → prefix_len p (xs ++ ys) ≡ length xs + prefix_len p ys
front_passes p xs ys all = prefix_len-append p xs ys ∙ cond-true _ _ _ (eq-eqb _ _ (all_pass p xs all))

-- and ends where the next byte does not
prefix_len_stop : (p : ℕ → Bool) (b : ℕ) (bs : List ℕ) → p b ≡ false → prefix_len p (b ∷ bs) ≡ 0
prefix_len_stop p b bs e = ap (λ c. cond c (1 + prefix_len p bs) 0) e

letters_stop : (rest : List ℕ) → Apart rest → position_or_len blank rest ≡ 0
letters_stop [] a = refl
letters_stop (b ∷ bs) a = prefix_len_stop (λ c. not (blank c)) b bs (not_from_true (blank b) a)

blanks_stop : (w rest : List ℕ) → Word w → prefix_len blank (w ++ rest) ≡ 0
blanks_stop [] rest h = absurd (omega (arith, h.0))
blanks_stop (b ∷ bs) rest h = prefix_len_stop blank b (bs ++ rest) h.1.0

letters_of : (w : List ℕ) → AllByRecursion (λ b. blank b ≡ false) w → AllByRecursion (λ b. not (blank b) ≡ true) w
letters_of [] all = tt
letters_of (b ∷ bs) all = (not_from_false (blank b) all.0, letters_of bs all.1)

module _ (w rest t : List ℕ) (b : Begins w rest t) where
  starts : unindented t ≡ w ++ rest
  starts =
      let n : prefix_len blank (b.gap ++ (w ++ rest)) ≡ length b.gap = front_passes blank b.gap (w ++ rest) b.blanks ∙ omega (arith, blanks_stop w rest b.letters) in
      ap unindented b.whole ∙ drop_at b.gap (w ++ rest) _ (sym n)

  ends : position_or_len blank (w ++ rest) ≡ length w
  ends = front_passes (λ c. not (blank c)) w rest (letters_of w b.letters.1) ∙ omega (arith, letters_stop rest b.apart)

  first_found : first_word t ≡ w
  first_found = ap (before_first blank) starts ∙ take_at w rest _ (sym ends)

  rest_found : after_word t ≡ rest
  rest_found = ap (λ l. drop (position_or_len blank l) l) starts ∙ drop_at w rest _ (sym ends)

none_left : (t : List ℕ) → Blank t → unindented t ≡ []
none_left t all = drop_all _ t (omega (arith, all_pass blank t all))

-- the words behind the first are those of what follows it
after_words-suc : (n : ℕ) (t : List ℕ) → after_words (suc n) t ≡ after_words n (after_word t)
unfolding after_words
after_words-suc zero t = refl
after_words-suc (suc n) t = ap after_word (after_words-suc n t)

-- the first word, and each further one as a word of what follows the first
pub word_at-zero : (t : List ℕ) → word_at t 0 ≡ first_word t
unfolding after_words
word_at-zero t = refl

-- the words that lie in a text are found at their places
pub find : (ws : List (List ℕ)) (t : List ℕ) (n : ℕ) → Laid ws t → word_at t n ≡ get_or ws n []
find [] t zero l = word_at-zero t ∙ ap (before_first blank) (none_left t l)
find [] t (suc n) l =
    let gone : after_word t ≡ [] = ap (λ u. drop (position_or_len blank u) u) (none_left t l) in
    ap first_word (after_words-suc n t) ∙ find [] (after_word t) n (subst Blank (sym gone) tt)
find (w ∷ ws) t zero l = word_at-zero t ∙ first_found w l.0 t l.1.0
find (w ∷ ws) t (suc n) l = ap first_word (after_words-suc n t ∙ ap (after_words n) (rest_found w l.0 t l.1.0)) ∙ find ws l.0 n l.1.1

-- a blank before a text adds no word
before_blank : (b : ℕ) (t : List ℕ) → blank b ≡ true → (ws : List (List ℕ)) → Laid ws t → Laid ws (b ∷ t)
before_blank b t e [] l = (e, l)
before_blank b t e (w ∷ ws) l =
    let s = l.1.0 in
    (l.0, (record { gap = b ∷ s.gap; blanks = (e, s.blanks); letters = s.letters; apart = s.apart; whole = ap (λ u. b ∷ u) s.whole }, l.1.1))

-- another byte begins a word, or goes before the first letter of one
before_letter : (b : ℕ) (t : List ℕ) → blank b ≡ false → (ws : List (List ℕ)) → Laid ws t → Laid (lettered b t ws) (b ∷ t)
before_letter b [] e ws l = ([], (record { gap = []; blanks = tt; letters = (omega arith, (e, tt)); apart = tt; whole = refl }, l))
before_letter b (c ∷ cs) e ws l =
    let P : Bool → Type 0 = λ v. Laid (cond v ((b ∷ []) ∷ ws) (lengthened b ws)) (b ∷ (c ∷ cs)) in
    ⊎_elim
    (λ yes. subst P (sym yes) (c ∷ cs, (record { gap = []; blanks = tt; letters = (omega arith, (e, tt)); apart = yes; whole = refl }, l)))
    (λ other. subst P (sym other) (longer other ws l))
    (cases_Bool (blank c))
  where
    no_gap : (gap w : List ℕ) → blank c ≡ false → Blank gap → c ∷ cs ≡ gap ++ w → gap ≡ []
    no_gap [] w other all is = refl
    no_gap (g ∷ gs) w other all is = let same : c ≡ g = cc in absurd (true≢false (sym all.0 ∙ ap blank (sym same) ∙ other))

    longer : blank c ≡ false → (vs : List (List ℕ)) → Laid vs (c ∷ cs) → Laid (lengthened b vs) (b ∷ (c ∷ cs))
    longer other [] k = absurd (true≢false (sym k.0 ∙ other))
    longer other (w ∷ vs) k =
        let begins = k.1.0 in
        let none = no_gap begins.gap (w ++ k.0) other begins.blanks begins.whole in
        (k.0, (record { gap = []; blanks = tt; letters = (omega arith, (e, begins.letters.1)); apart = begins.apart; whole = ap (λ u. b ∷ u) (begins.whole ∙ ap (λ g. g ++ (w ++ k.0)) none) }, k.1.1))

-- the words of a text lie in it
pub lay : (t : List ℕ) → Laid (words_of t) t
unfolding words_of
lay [] = tt
lay (b ∷ bs) =
    let P : Bool → Type 0 = λ v. Laid (cond v (words_of bs) (lettered b bs (words_of bs))) (b ∷ bs) in
    ⊎_elim (λ e. subst P (sym e) (before_blank b bs e (words_of bs) (lay bs))) (λ e. subst P (sym e) (before_letter b bs e (words_of bs) (lay bs))) (cases_Bool (blank b))

-- the words of a text are its first word and those of what follows it
of_first : (ws : List (List ℕ)) (t : List ℕ) → Laid ws t → (first_word t ≡ []) × (after_word t ≡ []) × (ws ≡ []) ⊎ ((vs : List (List ℕ)) × (ws ≡ first_word t ∷ vs) × (0 < length (first_word t)) × Laid vs (after_word t))
of_first [] t l = inl (ap (before_first blank) (none_left t l), ap (λ u. drop (position_or_len blank u) u) (none_left t l), refl)
of_first (w ∷ ws) t l =
    let first = first_found w l.0 t l.1.0 in
    let rest = rest_found w l.0 t l.1.0 in
    inr (ws, ap (λ v. v ∷ ws) (sym first), omega (arith, l.1.0.letters.0, ap length first), subst (Laid ws) (sym rest) l.1.1)

-- no text has other words
same_words : (ws vs : List (List ℕ)) (t : List ℕ) → Laid ws t → Laid vs t → ws ≡ vs
same_words [] [] t l k = refl
same_words [] (v ∷ vs) t l k = absurd (omega (arith, k.1.0.letters.0, ap length (sym (first_found v k.0 t k.1.0) ∙ ap (before_first blank) (none_left t l))))
same_words (w ∷ ws) [] t l k = absurd (omega (arith, l.1.0.letters.0, ap length (sym (first_found w l.0 t l.1.0) ∙ ap (before_first blank) (none_left t k))))
same_words (w ∷ ws) (v ∷ vs) t l k =
    let one : w ≡ v = sym (first_found w l.0 t l.1.0) ∙ first_found v k.0 t k.1.0 in
    let left : k.0 ≡ l.0 = sym (rest_found v k.0 t k.1.0) ∙ rest_found w l.0 t l.1.0 in
    ap (λ u. u ∷ ws) one ∙ ap (λ us. v ∷ us) (same_words ws vs l.0 l.1.1 (subst (Laid vs) left k.1.1))

-- what an iterator over the words gives: the first of them, and then has those of what follows it
pub yields : (t left : List ℕ) (r : Option (Bor (List ℕ))) → MatchOption r (first_word t ≡ []) (λ w. (w.now ≡ first_word t) × (0 < length w.now)) → left ≡ after_word t → MatchOption r ((words_of t ≡ []) × (words_of left ≡ [])) (λ w. words_of t ≡ w.now ∷ words_of left)
unfolding words_of
yields t left None none is =
    ⊎_elim
    (λ e. (e.2, ap words_of (is ∙ e.1)))
    (λ e. absurd (omega (arith, e.2, ap length none)))
    (of_first (words_of t) t (lay t))
yields t left (Some w) some is =
    ⊎_elim
    (λ e. absurd (omega (arith, some.1, ap length (some.0 ∙ e.0))))
    (λ e. e.1 ∙ ap (λ v. v ∷ e.0) (sym some.0) ∙ ap (λ vs. w.now ∷ vs) (same_words e.0 (words_of (after_word t)) (after_word t) e.3 (lay (after_word t)) ∙ ap words_of (sym is)))
    (of_first (words_of t) t (lay t))

-- and so fewer are left
pub nearer : (t left : List ℕ) (r : Option (Bor (List ℕ))) → MatchOption r ((words_of t ≡ []) × (words_of left ≡ [])) (λ w. words_of t ≡ w.now ∷ words_of left) → MakesProgress (λ _. ⊤) (item_count words_of) t r left
nearer t left None e = record { on = λ _. tt; keeps = tt; rests = λ _. tt }
nearer t left (Some w) e = record { on = λ _. (tt, tt, omega (arith, ap length e)); keeps = tt; rests = λ _. tt }

-- the word at a place is the one of that number
pub word_found : (t : List ℕ) (n : ℕ) (r : Option (Bor (List ℕ))) (other : Bor (List ℕ)) → option_map (λ w. w.now) r ≡ slice_get (words_of t) n → other.now ≡ [] → (unwrap_or r other).now ≡ word_at t n
word_found t n r other got none = seen r ∙ ap (λ o. unwrap_or o other.now) got ∙ ap (unwrap_or (slice_get (words_of t) n)) none ∙ unwrap_or-slice_get (words_of t) n [] ∙ sym (find (words_of t) t n (lay t))
  where
    seen : (o : Option (Bor (List ℕ))) → (unwrap_or o other).now ≡ unwrap_or (option_map (λ w. w.now) o) other.now
    seen None = refl
    seen (Some w) = refl

-- A script line and its words.
--
--   line_text       a line without its line end
--   command_part    what stands before a line's comment
--   next_word       the first word of a text, where it has one; `after_word` is what follows it
--   word_at         a word of a text by its place, from 0 on; empty where there are fewer words
--   words_of        the words of a text in turn
--   shown_text      a line as it is shown where it cannot be read
--
-- Made of: `blank`, `chopped`, `unindented`, `first_word`, `after_words`, `lengthened`, `lettered`, `trimmed`.
use Rattle.std.specs.Prelude.{ℕ, zero, suc, ◌-◌, Bool, cond, ◌&&◌, ◌||◌, List, [], ◌∷◌, length, take, drop, Some, None, Option, ◌==◌, nat_lt, slice_index}
use Rattle.std.specs.List.{prefix_len, position_or_len, suffix_len, before_first}

-- a space or a tab
abbrev pub blank : ℕ → Bool
blank b = b == 32 || b == 9

-- a line less one byte `end`, where it ends with it
abbrev pub chopped : ℕ → List ℕ → List ℕ
chopped end l = cond (nat_lt 0 (length l) && slice_index l (length l - 1) == end) (take (length l - 1) l) l

-- a line without its line feed and the carriage return before that
abbrev pub line_text : List ℕ → List ℕ
line_text l = chopped 13 (chopped 10 l)

-- what stands before the comment
abbrev pub command_part : List ℕ → List ℕ
command_part l = before_first (λ b. b == 35) l

-- a text without the blanks at its front
abbrev pub unindented : List ℕ → List ℕ
unindented t = drop (prefix_len blank t) t

-- the first word of a text
abbrev pub first_word : List ℕ → List ℕ
first_word t = before_first blank (unindented t)

-- what follows the first word
abbrev pub after_word : List ℕ → List ℕ
after_word t = drop (position_or_len blank (unindented t)) (unindented t)

-- the next word of a text, where it has one
abbrev pub next_word : List ℕ → Option (List ℕ)
next_word t = cond (length (first_word t) == 0) None (Some (first_word t))

-- what follows the first n words
unfoldable pub after_words : ℕ → List ℕ → List ℕ
after_words zero t = t
after_words (suc n) t = after_word (after_words n t)

-- the word at a place, counted from 0
abbrev pub word_at : List ℕ → ℕ → List ℕ
word_at t n = first_word (after_words n t)

-- these words with a letter before the first of them
abbrev pub lengthened : ℕ → List (List ℕ) → List (List ℕ)
lengthened b [] = (b ∷ []) ∷ []
lengthened b (w ∷ ws) = (b ∷ w) ∷ ws

-- the words of a text that begins with a letter, where what follows the letter has these words
abbrev pub lettered : ℕ → List ℕ → List (List ℕ) → List (List ℕ)
lettered b [] ws = (b ∷ []) ∷ ws
lettered b (c ∷ cs) ws = cond (blank c) ((b ∷ []) ∷ ws) (lengthened b ws)

-- the words of a text in turn
unfoldable pub words_of : List ℕ → List (List ℕ)
words_of [] = []
words_of (b ∷ bs) = cond (blank b) (words_of bs) (lettered b bs (words_of bs))

-- a text without the blanks at its two ends
abbrev pub trimmed : List ℕ → List ℕ
trimmed t = take (length (unindented t) - suffix_len blank (unindented t)) (unindented t)

-- a line as it is shown where it cannot be read: comment and all, without its line end and the blanks at its two ends
abbrev pub shown_text : List ℕ → List ℕ
shown_text l = trimmed (line_text l)

-- The frames that are listed.
use Rattle.std.proofs.Common.{◌≡◌, ℕ, ◌+◌, ◌*◌, ◌<◌, Bool, ◌&&◌, List, ◌++◌, length, drop, get_or, codes, Some, sym, ap, ◌∙◌, arith}
use Rattle.std.specs.List.{list_any, slice_get}
use Rattle.std.specs.Fmt.{decimal}
use Rattle.std.proofs.lemmas.List.{drop-drop}
use Rattle.std.proofs.lemmas.Option.{slice_get-get_or}
use Rattle.frames.specs.declared.kinds.FrameKind.{FrameKind}
use Rattle.frames.specs.declared.kinds.FrameKind.TheVariants as kind
use Rattle.frames.specs.Kinds.{keeps_words}
use Rattle.script.specs.Listings.{below}
use Rattle.script.specs.Pictures.{frame_line, frame_words, is_listed, nonzero, words_text}

-- the words behind the next frame
pub rest_on : (ws rest : List ℕ) (n : ℕ) → rest ≡ drop (512 * n) ws → drop 512 rest ≡ drop (512 * (n + 1)) ws
rest_on ws rest n e =
    let k : 512 * n + 512 ≡ 512 * (n + 1) = omega arith in
    ap (drop 512) e ∙ drop-drop 512 (512 * n) ws ∙ ap (λ j. drop j ws) k

-- what is found of a frame's kind and words says whether it is listed
pub passes_as : (ws : List ℕ) (ks : List FrameKind) (n : ℕ) (here : List ℕ) (b : Bool) → n < length ks → here ≡ frame_words ws n → b ≡ (keeps_words (Some (get_or ks n kind.Plain)) && list_any nonzero here) → is_listed ws ks n ≡ b
passes_as ws ks n here b within is e =
    sym (e ∙ ap (λ o. keeps_words o && list_any nonzero here) (sym (slice_get-get_or ks n kind.Plain within)) ∙ ap (λ l. keeps_words (slice_get ks n) && list_any nonzero l) is)

-- the line of a frame by its words
pub shown_as : (ws : List ℕ) (n : ℕ) (here : List ℕ) → here ≡ frame_words ws n → below (codes "frame " ++ (decimal n ++ (codes ":" ++ words_text here))) ≡ frame_line ws n
shown_as ws n here is = ap (λ l. below (codes "frame " ++ (decimal n ++ (codes ":" ++ words_text l)))) is

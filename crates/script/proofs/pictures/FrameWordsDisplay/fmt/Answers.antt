-- A word is written where it is not zero.
use Rattle.std.proofs.Common.{ℕ, Bool, List, ◌++◌, codes, get_or, ap, sym, subst, not, rules}
use Rattle.std.specs.Fmt.{HasWritten}
use Rattle.std.proofs.Output.{has_written_of_eq, has_written_append}
use Rattle.std.proofs.lemmas.Bool.{eq-eqb, ne_eqb}
use Rattle.script.specs.Pictures.{nonzero, word_text}
use Rattle.script.proofs.Places.{below_next, passed_over, put_in}
use Rattle.script.proofs.pictures.FrameWordsDisplay.fmt.Goals as goal
use Rattle.script.proofs.pictures.FrameWordsDisplay.fmt.Goals.{then-word-ne0+in_ok-write, else-word-ne0}

abbrev shown : List ℕ → ℕ → List ℕ
shown ws i = codes " " ++ word_text ws i

abbrev passes : List ℕ → ℕ → Bool
passes ws i = nonzero (get_or ws i 0)

pub loop-index-preserved : goal.loop-index-preserved
loop-index-preserved g c = λ plain.
    let ws = c.args.self.now.0.now in
    let n = c.loop-index.index-counter in
    elim c.if-word-ne0.branch [
      | then-word-ne0+in_ok-write w ↦
          subst (λ h. HasWritten g.W.Write.write_str_gives c.args.f.now (below_next (shown ws) (passes ws) n) h) (sym w.f-is)
          (has_written_of_eq _ _ _ _ _ (put_in (shown ws) (passes ws) n (ap not (ne_eqb _ 0 w.if-word-ne0.true))) (has_written_append _ _ _ _ _ _ (c.loop-index.invariant plain) (search rules)))
      | else-word-ne0 w ↦
          subst (λ h. HasWritten g.W.Write.write_str_gives c.args.f.now (below_next (shown ws) (passes ws) n) h) (sym w.f-is)
          (has_written_of_eq _ _ _ _ _ (passed_over (shown ws) (passes ws) n (ap not (eq-eqb _ 0 w.if-word-ne0.false))) (c.loop-index.invariant plain))
    ]

-- A frame is written where it is listed, and the words of the next one are at hand.
use Rattle.std.proofs.Common.{◌≡◌, ◌+◌, ◌*◌, drop, take, ap, sym, ◌∙◌, subst, rules}
use Rattle.std.specs.Fmt.{HasWritten}
use Rattle.std.proofs.Output.{has_written_of_eq, has_written_append}
use Rattle.script.specs.Pictures.{frame_words}
use Rattle.script.specs.Pictures.{frame_line, is_listed}
use Rattle.script.proofs.Frames.{passes_as, rest_on, shown_as}
use Rattle.script.proofs.Places.{below_n, passed_over, put_in}
use Rattle.script.proofs.pictures.FramesDisplay.fmt.Goals as goal
use Rattle.script.proofs.pictures.FramesDisplay.fmt.Goals.{then-is_listed+in_ok-write, else-is_listed}

pub loop-frame-preserved : goal.loop-frame-preserved
loop-frame-preserved g c =
    let ws = c.args.self.now.0.words.now in
    let ks = c.args.self.now.0.kinds.now in
    let n = c.loop-frame.frame-counter in
    let is : c.split_frame.result.0.now ≡ frame_words ws n = c.split_frame.ensures.here ∙ ap (take 512) c.loop-frame.invariant.left in
    let test = passes_as ws ks n c.split_frame.result.0.now c.is_listed.result c.loop-frame-test.true is c.is_listed.ensures in
    let next : c.split_frame.result.1.now ≡ drop (512 * (n + 1)) ws = c.split_frame.ensures.behind ∙ rest_on ws _ n c.loop-frame.invariant.left in
    elim c.if-is_listed.branch [
      | then-is_listed+in_ok-write w ↦
          record {
            left = ap (λ r. r.now) w.rest-is ∙ next;
            text = λ plain.
                subst (λ h. HasWritten g.W.Write.write_str_gives c.args.f.now (below_n (frame_line ws) (is_listed ws ks) (n + 1)) h) (sym w.f-is)
                (has_written_of_eq _ _ _ _ _ (put_in (frame_line ws) (is_listed ws ks) n (test ∙ w.if-is_listed.true))
                (has_written_append _ _ _ _ _ _ (c.loop-frame.invariant.text plain) (has_written_of_eq _ _ _ _ _ (shown_as ws n c.split_frame.result.0.now is) (search rules))));
          }
      | else-is_listed w ↦
          record {
            left = ap (λ r. r.now) w.rest-is ∙ next;
            text = λ plain.
                subst (λ h. HasWritten g.W.Write.write_str_gives c.args.f.now (below_n (frame_line ws) (is_listed ws ks) (n + 1)) h) (sym w.f-is)
                (has_written_of_eq _ _ _ _ _ (passed_over (frame_line ws) (is_listed ws ks) n (test ∙ w.if-is_listed.false)) (c.loop-frame.invariant.text plain));
          }
    ]

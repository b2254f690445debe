-- One task more.
use Rattle.std.proofs.Common.{refl, sym, ◌∙◌}
use Rattle.std.proofs.lemmas.List.{set_past}
use Rattle.machine.proofs.Running.{run_none, run_step}
use Rattle.machine.proofs.machine.Machine.carry_out_all.Goals as goal
use Rattle.machine.proofs.machine.Machine.carry_out_all.Goals.{then-index-answers, else-index-answers}

pub loop-index-init : goal.loop-index-init
loop-index-init g c = (run_none g.P.Policy.means _ _ _, refl)

pub loop-index-preserved : goal.loop-index-preserved
loop-index-preserved g c =
    let step = run_step g.P.Policy.means c.args.tasks.now c.loop-index.index _ _ _ _ _ _ _ _ _ _ _ _ _ c.loop-index.invariant c.loop-index-test.true c.carry_out-answer.ensures.happens c.carry_out-answer.ensures.list c.carry_out-answer.ensures.count c.carry_out-answer.ensures.within c.drained_in.ensures in
    elim c.if-index-answers.branch [
      | then-index-answers w ↦ step w.answers-is
      | else-index-answers w ↦ step (w.answers-is ∙ sym (set_past _ _ _ w.if-index-answers.false))
    ]

-- New policies are the only ones that start with all open.
use Rattle.std.proofs.Common.{rules, ◌≡◌, ◌∙◌, length, ap}
use Rattle.policy.specs.declared.append_only.AppendOnly.{AppendOnly}
use Rattle.policy.specs.declared.free.Free.{Free}
use Rattle.policy.specs.declared.write_once.WriteOnce.{WriteOnce}
use Rattle.script.specs.Machines.{new_policies}
use Rattle.script.proofs.NewPolicies.{new_append_only, new_write_once}
use Rattle.script.proofs.machines.new_policies.Goals as goal

pub returns : goal.returns
unfolding new_policies
returns c =
    let long : length c.new.result.fresh ≡ 4096 = search rules in
    c.new-5.ensures.same
    ∙ ap (λ (b : AppendOnly × Free). (c.new.result, b)) c.new-4.ensures.same
    ∙ ap (λ (w : WriteOnce). (w, (c.new-2.result, c.new-3.result))) (new_write_once c.new.result long c.new.ensures.starts)
    ∙ ap (λ (a : AppendOnly). (record { fresh = _ }, (a, c.new-3.result))) (new_append_only c.new-2.result c.new-2.ensures.starts)

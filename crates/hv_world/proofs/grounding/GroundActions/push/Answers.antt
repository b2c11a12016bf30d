use Rattle.std.proofs.Common.{◌∙◌}
use Rattle.hv_world.specs.Bindings.{grounded}
use Rattle.hv_world.proofs.GroundingLemmas.{grounded_pushed}
use Rattle.hv_world.proofs.grounding.GroundActions.push.Goals as goal

pub returns-in-Ok-clause-pushed : goal.returns-in-Ok-clause-pushed
returns-in-Ok-clause-pushed c =
    let g = c.args.self.now in
    (λ i. grounded (c.in_ok-push.ensures.items i) (c.in-Ok.ensures.lists i))
    ∙ grounded_pushed g.actions.items g.objects c.args.action c.args.objects.now g.as_many

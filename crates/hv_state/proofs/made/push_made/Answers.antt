use Rattle.std.proofs.lemmas.Result.{IfOk-weaker}
use Rattle.hv_world.specs.Bindings.{objects_in}
use Rattle.hv_world.specs.Values.{effects_of}
use Rattle.hv_world.specs.Views.{effect_view}
use Rattle.hv_world.specs.WorldViews.{world_view}
use Rattle.std.proofs.Common.{map}
use Rattle.hv_state.specs.inside.Makings.{IsMadeBySome}
use Rattle.hv_state.proofs.TakeLemmas.{rows_joined}
use Rattle.hv_state.proofs.made.push_made.Goals as goal

pub returns : goal.returns
returns c =
    let w = (world_view c.args.world.now).typing in
    IfOk-weaker c.take_made.result _ _ (λ x taken. rows_joined (λ g. IsMadeBySome w c.args.is_true g (effects_of (map effect_view c.args.effects.now)) (objects_in c.args.binding.now)) c.args.rows.now c.take_made.new.into taken) c.take_made.ensures

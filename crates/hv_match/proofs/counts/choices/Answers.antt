use Rattle.std.proofs.Common.{ℕ, subst}
use Rattle.hv_world.specs.WorldViews.{world_view}
use Rattle.hv_match.specs.Counts.{AreSoMany}
use Rattle.hv_match.proofs.counts.choices.Goals as goal

pub returns : goal.returns
returns c = let P : ℕ → Type 0 = λ t. AreSoMany (world_view c.args.world.now) t c.many.result in subst P c.type_of.ensures c.many.ensures

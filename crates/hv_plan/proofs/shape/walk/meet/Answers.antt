use Rattle.std.proofs.Common.{◌≡◌, true, rules, arith}
use Rattle.std.proofs.lemmas.Grind.{common_steps}
use Rattle.hv_plan.specs.inside.Shaping.{is_marked}
use Rattle.hv_plan.proofs.ShapeWalks.{grows_by_none}
use Rattle.hv_plan.proofs.shape.walk.meet.Goals as goal

pub returns-else-not-index-clause-grows : goal.returns-else-not-index-clause-grows
returns-else-not-index-clause-grows c =
    let met : is_marked c.args.walk.now.is_met.items c.args.place ≡ true = first_of (search rules, cc, grind (arith, common_steps)) in
    grows_by_none c.args.walk.now.met.items c.args.place (c.requires.walk.marked c.args.place met)

use Rattle.std.proofs.Common.{◌<◌, length, map, ◌∙◌, ap, sym, arith}
use Rattle.std.specs.Prelude.{Some}
use Rattle.hv_world.specs.Bindings.{object_number, ground_action}
use Rattle.hv_world.proofs.GroundingLemmas.{grounded_length, grounded_at}
use Rattle.hv_world.proofs.grounding.GroundActions.at.Goals as goal

pub index-requires : goal.index-requires
index-requires c =
    let g = c.args.self.now in
    let many = grounded_length g.actions.items g.objects g.as_many in
    let len = g.actions.ok in
    omega (arith, many, len, c.requires)

pub returns : goal.returns
returns c =
    let g = c.args.self.now in
    let many = grounded_length g.actions.items g.objects g.as_many in
    let lt : c.args.place < length g.actions.items = omega (arith, many, c.requires) in
    grounded_at g.actions.items g.objects c.args.place c.index.result.now g.as_many lt c.index.ensures
    ∙ ap (λ os. Some (ground_action c.index.result.now.0 (map object_number os))) (sym c.at.ensures)

use Rattle.hv_world.proofs.world.World.is_of.Goals as goal

pub returns : goal.returns
returns c =
    let exact = c.range_of.ensures.exact c.args.object.0 in
    (λ t. exact.0 (c.has.ensures.0 t), λ of. c.has.ensures.1 (exact.1 of))

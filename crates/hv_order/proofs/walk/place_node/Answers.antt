use Rattle.hv_order.proofs.walk.place_node.Goals as goal

pub begin_children-requires-clause-apart : goal.begin_children-requires-clause-apart
begin_children-requires-clause-apart g c =
    let is = c.in_ok-stand.ensures.stand.is in
    rw c.deref.ensures.value (c.requires.tree.place c.args.node _ is.is_candidate)

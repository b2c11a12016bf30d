use Rattle.hv_match.proofs.check.is_candidate.Goals as goal

pub returns : goal.returns
returns c = rw (c.node_and_method.ensures.node, c.node_and_method.ensures.method) c.is_candidate_by.ensures

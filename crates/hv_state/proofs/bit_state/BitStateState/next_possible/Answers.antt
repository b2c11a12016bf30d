use Rattle.hv_state.proofs.bit_state.BitStateState.next_possible.Goals as goal

pub returns : goal.returns
returns c os o n e le lt lit = c.next_known.ensures os o n e le lt lit.0

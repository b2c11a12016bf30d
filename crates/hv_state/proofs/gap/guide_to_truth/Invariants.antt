use Rattle.hv_state.proofs.gap.guide_to_truth.Given as goal

-- nothing is kept of the parts so far
abbrev pub invariant-loop-part : goal.invariant-loop-part
invariant-loop-part l = Unit {0}

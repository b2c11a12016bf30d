-- What the proofs of the crates above cite. A proof cannot call a function, so what the laws `truth_is_decided` and
-- `needed_atoms_are_true` say is to be had here as terms.
pub use Rattle.hv_state.proofs.DecisionLemmas.{true_decided, state_decided}
pub use Rattle.hv_state.proofs.NeededLemmas.{needed_true}

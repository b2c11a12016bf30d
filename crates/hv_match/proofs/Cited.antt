-- What the proofs of the crates above cite: that each node has its method, and that nothing is asked of atoms where no rows are
-- given.
pub use Rattle.hv_match.proofs.NodeLemmas.{has_method}
pub use Rattle.hv_match.proofs.PossibleLemmas.{unasked, unasked_at}

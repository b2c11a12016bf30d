-- What the proofs of the crates above cite. A proof cannot call a function, so what the laws without code say
-- (`types_are_decided`, `orders_are_decided`, `names_are_found`) is to be had here as terms.
pub use Rattle.hv_world.proofs.TypeDecisions.{of_is_decided}
pub use Rattle.hv_world.proofs.CycleLemmas.{before_is_decided}
pub use Rattle.hv_world.proofs.OnceLemmas.{found_at}
pub use Rattle.hv_world.proofs.GroundingLemmas.{grounded_length}

-- What the proofs of the crates above cite: which line a node is of, and where an id stands in a table of ids.
pub use Rattle.hv_plan.proofs.NodeLaws.{line_of}
pub use Rattle.hv_plan.proofs.ShapePlaces.{place_is}

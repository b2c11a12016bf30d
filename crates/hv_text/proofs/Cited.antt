-- What the proofs of the crates above cite: a text of which a write left a beginning alone.
pub use Rattle.hv_text.proofs.WriteLemmas.{longer, behind, item_fails}

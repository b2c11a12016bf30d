-- What models the steps of the code, for its proofs: a reader of the laws needs none of it.
pub mod Ends
pub mod CheckEnds

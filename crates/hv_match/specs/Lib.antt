pub mod Possible
pub mod Candidates
pub mod Counts
pub mod inside

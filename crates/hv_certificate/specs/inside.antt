-- How the code goes, step by step, for its proofs. No public clause means any of this.
pub mod Words
pub mod Reading

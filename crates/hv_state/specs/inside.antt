-- How the code keeps states and changes, step by step, for its proofs. No public clause means any
-- of this.
pub mod Rows
pub mod Histories
pub mod Notes
pub mod Bits
pub mod Makings
pub mod Parts
pub mod Takings
pub mod Hashes
pub mod Gaps
pub mod Lacks
pub mod Stretches

-- How the code goes, step by step, for its proofs. No public clause means any of this.
pub mod Tables
pub mod TypeLists
pub mod ListParts
pub mod Bases
pub mod Lines
pub mod Layouts
pub mod LabelViews
pub mod OrderWalks
pub mod OrderViews
pub mod Numbered
pub mod Parts
pub mod Kept
pub mod Seeds
pub mod Gathers

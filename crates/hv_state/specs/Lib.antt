pub mod Atoms
pub mod Truth
pub mod Plans
pub mod Changes
pub mod Needed
pub mod Ever
pub mod Words
pub mod inside

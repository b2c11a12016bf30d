-- What the code works on and keeps, as its proofs speak of it; no public clause stands on it.
pub mod Numbers
pub mod Counting
pub mod Search
pub mod States
pub mod Puzzles
pub mod Tables
pub mod PuzzleViews
pub mod Ranges
pub mod Forced
pub mod Parts
pub mod Checks
pub mod Ways

-- How the code reads, step by step, for its proofs; the laws say that it is what the tables say.
pub mod Reading
pub mod Words
pub mod Terms
pub mod TypedLists
pub mod Typings
pub mod Lists
pub mod Formulas
pub mod Literals
pub mod Effects
pub mod Networks
pub mod Declarations
pub mod Sections
pub mod Domains
pub mod Problems
pub mod Faults
pub mod Streams

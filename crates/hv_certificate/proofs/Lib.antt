pub mod WordLemmas
pub mod NumberLemmas
pub mod FormLemmas
pub mod LineLemmas
pub mod LawLemmas

pub mod WriteLemmas

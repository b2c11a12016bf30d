pub mod Texts
pub mod Views
pub mod Forms
pub mod inside

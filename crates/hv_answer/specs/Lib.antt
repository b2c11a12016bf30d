pub mod Kinds
pub mod Places
pub mod Text

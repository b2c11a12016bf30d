pub mod Faltering

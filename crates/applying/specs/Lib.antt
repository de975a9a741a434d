pub mod Applies

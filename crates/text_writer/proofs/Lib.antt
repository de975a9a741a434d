pub mod Putting
pub mod Bounded
pub mod Lines

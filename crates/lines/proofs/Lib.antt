pub mod Lines
pub mod Cutting
pub mod Keeping

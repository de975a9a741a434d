pub mod Preparing
pub mod Moving
pub mod Prepared

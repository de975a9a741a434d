pub mod Told
pub mod Performs

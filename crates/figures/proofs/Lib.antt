pub mod Prefixes
pub mod Reading

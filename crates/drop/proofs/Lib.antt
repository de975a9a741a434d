pub mod Dropping
pub mod Deciding
pub mod Calling

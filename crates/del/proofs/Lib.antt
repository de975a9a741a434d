pub mod Calling
pub mod Planning
pub mod Stamping

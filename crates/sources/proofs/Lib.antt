pub mod Joined
pub mod Sources

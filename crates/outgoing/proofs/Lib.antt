pub mod Heads
pub mod Deciding

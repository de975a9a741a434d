pub mod Linked
pub mod Carrying

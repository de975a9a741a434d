pub mod Chain
pub mod Carrying

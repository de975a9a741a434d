pub mod Pacing
pub mod Filling
pub mod Reaching
pub mod Carrying

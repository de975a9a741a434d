pub mod Pieces
pub mod Running
pub mod Taking

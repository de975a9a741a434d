pub mod OldFault
pub mod Histories
pub mod Cards

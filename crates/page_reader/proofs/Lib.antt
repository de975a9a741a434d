pub mod Given
pub mod InTurn

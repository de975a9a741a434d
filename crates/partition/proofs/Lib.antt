pub mod Inside
pub mod Lending
pub mod Changing
pub mod Flushing

pub mod Calling
pub mod Lowering

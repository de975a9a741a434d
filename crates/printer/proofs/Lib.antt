pub mod Figures
pub mod Printing

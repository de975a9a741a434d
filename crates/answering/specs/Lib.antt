pub mod Younger

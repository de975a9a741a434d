pub mod History
pub mod Reads
pub mod Claim
pub mod Moving
pub mod Telling

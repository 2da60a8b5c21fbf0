pub mod Kept
pub mod Peeks

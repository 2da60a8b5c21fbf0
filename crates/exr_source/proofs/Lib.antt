pub mod Bounded
pub mod Whole

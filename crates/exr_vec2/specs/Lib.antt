pub mod Vectors
pub mod Conversions

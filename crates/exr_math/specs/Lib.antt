pub mod Logarithms
pub mod Rounding

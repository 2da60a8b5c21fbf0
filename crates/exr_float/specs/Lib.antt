pub mod Floats
pub mod Elements
pub mod Patterns

pub mod UserWord
pub mod Packed

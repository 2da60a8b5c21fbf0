pub mod Refusals
pub mod Numbering

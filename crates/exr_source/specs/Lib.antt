pub mod Requests
pub mod Keeping
pub mod Properly
pub mod Whole

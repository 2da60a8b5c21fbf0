pub mod Back
pub mod Joined

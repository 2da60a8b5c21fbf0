pub mod Back
pub mod Layouts

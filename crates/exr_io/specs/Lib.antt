pub mod Reads
pub mod Runs

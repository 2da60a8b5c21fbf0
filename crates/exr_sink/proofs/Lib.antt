pub mod Laying
pub mod Giving
pub mod Runs
pub mod Written

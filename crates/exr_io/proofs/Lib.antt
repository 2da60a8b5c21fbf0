pub mod Words
pub mod Taken
pub mod Sliced
pub mod Backs

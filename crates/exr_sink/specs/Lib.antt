pub mod Gifts
pub mod Lent
pub mod Writing

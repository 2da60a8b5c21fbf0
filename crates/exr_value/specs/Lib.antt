pub mod Seen
pub mod KeyCodes

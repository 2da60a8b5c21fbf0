mod Powers
mod Quotients

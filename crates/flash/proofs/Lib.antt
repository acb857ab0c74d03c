-- What is proved of operations that are allowed.
pub mod Clearing

-- The modules of this crate.
pub mod Translating
pub mod Filtered
pub mod Following
pub mod Collecting
pub mod Answering
pub mod Node

-- The modules of this crate.
pub mod Entries
pub mod Ranks
pub mod Holds
pub mod Waiting
pub mod Neighbours
pub mod Order
pub mod Changes
pub mod Steps
pub mod Current
pub mod Stored
pub mod Drop
pub mod Fetch
pub mod Follow

-- The modules of this crate.
pub mod Named
pub mod Tally
pub mod Part
pub mod Maps
pub mod Seen
pub mod Entries
pub mod Stored
pub mod Translated
pub mod Places
pub mod PastL

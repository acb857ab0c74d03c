-- The modules of this crate.
pub mod Stored
pub mod Asked

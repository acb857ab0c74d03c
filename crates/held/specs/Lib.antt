-- The modules of this crate.
pub mod Held
pub mod Linked

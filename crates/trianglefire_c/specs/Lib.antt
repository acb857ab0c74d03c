-- The modules of this crate.
pub mod Exports

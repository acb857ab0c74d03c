-- The modules of this crate.
pub mod Bounds
pub mod Sizes

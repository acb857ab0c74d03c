-- The modules of this crate.
pub mod Format
pub mod Check
pub mod Single

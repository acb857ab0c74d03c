-- The modules of this crate.
pub mod Pages
pub mod Blocks
pub mod Survey
pub mod Census

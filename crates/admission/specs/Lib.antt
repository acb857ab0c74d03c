-- The modules of this crate.
pub mod Tested
pub mod SingleTested
pub mod Room

-- The laws that rest on what the definitions of this crate say.
pub mod Serve
pub mod Ran

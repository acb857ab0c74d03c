-- The modules of this crate.
pub mod Ends
pub mod Asks
pub mod Serve
pub mod Records
pub mod Ran

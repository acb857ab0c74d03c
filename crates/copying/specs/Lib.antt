-- The modules of this crate.
pub mod Moves
pub mod Choice
pub mod Copies
pub mod Starting

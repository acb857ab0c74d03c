-- The modules of this folder beside the printed proofs.
pub mod Exits
pub mod Held

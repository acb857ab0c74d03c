-- The modules of this folder beside the proofs of the exports.
pub mod Exported

-- A call that was made, and the three demands of it. Their proofs stand in proofs/.
pub mod Made
pub mod Ensured
pub mod Demands

-- What the session program prints for a line, by document 01's definitions, and the laws that its proofs cite.
pub mod Serves
pub mod Called

-- What the leaves of this crate ask for, and laws that turn what they do to lists into 01's steps.
pub mod Lies
pub mod Flash
pub mod Chip
pub mod Directory
pub mod Census

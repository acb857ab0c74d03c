-- The modules of this crate.
pub mod Model
pub mod Answers
pub mod Sizes
pub mod Tests

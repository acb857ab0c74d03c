-- What the demands are said with.
pub mod Moments
-- What is proved.
pub mod Cases
pub mod Counting
pub mod Tests
pub mod Searching
pub mod Stores
pub mod Lengths
pub mod Pages
pub mod Kept
pub mod Places
pub mod Bounded
pub mod Heads
pub mod Owners
pub mod SamePages
pub mod Listed

-- What the demands are said with; crate contracts states them.
pub mod Call
pub mod Grounds
pub mod EachRecord
pub mod Remembered
pub mod Bounds
-- The steps. What follows from all of them together stands in proofs/.
pub mod Index
pub mod Stored
pub mod Parts
pub mod Update
pub mod Settle
pub mod Follow
pub mod Keeping
pub mod Translate
pub mod Neighbours
pub mod Replacement
pub mod HeldWords
pub mod Read
pub mod Write
pub mod Formatted
-- Demand 1.
pub mod Tests
pub mod GroundsDecided
-- Demands 2 and 3.
pub mod OneForEach

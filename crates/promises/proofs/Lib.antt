-- The steps.
pub mod Replacement
pub mod Serve
-- Demand 1.
pub mod Refusals
pub mod Records
pub mod Demand1
-- Demands 2 and 3.
pub mod Standing
pub mod RunStands
pub mod FromSound

-- The three demands, proved.
pub mod Outcomes
pub mod Demand1
pub mod Traces
pub mod Theorems
-- What they come to at one call, and at two in a row.
pub mod ReadAfterWrite
-- 02, P5.
pub mod Replacement

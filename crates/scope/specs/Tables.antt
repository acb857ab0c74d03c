-- Closed instances of the definitions, proved by computation: 01's own session and cases, and what these do not reach.
-- The must-fail edits of this crate are refused by these tables.
pub mod Play
pub mod Session
pub mod Instances
pub mod Replacement
pub mod Cases

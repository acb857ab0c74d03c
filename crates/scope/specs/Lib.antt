-- Document 01 as definitions, in its order. Below each of 01's headings stand the files that say it; a reader must believe those up to
-- Holding, and nothing else.

-- "Geometry"
pub mod Counting
pub mod Geometry
-- "What is lent"
pub mod Regions
pub mod SmallRecord
pub mod Lent
pub mod Blocks
-- "Sound states"
pub mod Sound
pub mod Decisions
-- "Reply numbers"
pub mod Replies
-- "The steps"
pub mod Operations
pub mod Room
pub mod Cache
pub mod Steps
pub mod Requests
-- "What the library covers": the five calls, the same calls as C makes them, and the form of their contracts
pub mod Calls
pub mod Boundary
pub mod Holding
-- What is proved of these here: laws, of which proofs/ has those of the rules' tests and of every step, and "A session in full" with other
-- closed instances
pub mod Laws
pub mod Tables

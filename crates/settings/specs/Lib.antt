-- 02, P1, "Settings kept with the node". A reader must believe the first four files, and nothing else.

-- "Tagged fields", read and written
pub mod Fields
-- The versions, the reader, the writer, and the two calls
pub mod Settings
-- What a record is, without the reader
pub mod Laid
-- What is promised of the two calls
pub mod Kept
-- Closed instances; what else is proved of these stands in proofs/
pub mod Tables

-- Laws of the definitions that stand with them: the small record's words hold it; what it is for a test to decide a rule, and for a step's
-- flash to be its operations applied.
pub mod SmallRecord
pub mod Decides
pub mod Applied

-- Laws of the lists that the contracts of this crate speak of.
pub mod Runs
pub mod Entries
pub mod States
pub mod Erased
pub mod Searches
pub mod Bitmap
pub mod Census
pub mod Filter
pub mod Noted

-- Laws that turn what the leaves do to the cache into 01's steps, and keep the filter of the cached pages.
pub mod Entries
pub mod Filter

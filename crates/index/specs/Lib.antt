-- What the functions of this crate ask for, and laws that put what they do together as document 01 does. Moves: what waits; Taking:
-- what is taken out of it for one page; Words: words set in a page; OfPage and Changed: the
-- entries of a page, and the words of the changed ones; Index: the lists that are
-- lent; the others follow the functions in their order.
pub mod Words
pub mod OfPage
pub mod Changed
pub mod Moves
pub mod Taking
pub mod Index
pub mod Collecting
pub mod Writing
pub mod Settling

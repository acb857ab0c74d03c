-- The modules of this crate.
pub mod Firsts
pub mod Judged
pub mod Model
pub mod Numbers
pub mod Rows
pub mod Skipping
pub mod Written

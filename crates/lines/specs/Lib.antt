-- What a line of a session means, and that reading it byte by byte finds that meaning; what is printed of an answer.
pub mod Lines
pub mod Digits
pub mod Table
pub mod Feeding
pub mod Reads
pub mod Spelled
pub mod Put

-- Laws of the definitions, of which the promises are made.
pub mod Numbers
pub mod Tests
pub mod Fields
pub mod Skipped
pub mod Reader
pub mod Calls

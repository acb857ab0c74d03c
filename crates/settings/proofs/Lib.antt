-- What is proved of the definitions: laws, the promises of any version in any table, and those of the two calls.
pub mod Laws
pub mod Promises
pub mod Theorems

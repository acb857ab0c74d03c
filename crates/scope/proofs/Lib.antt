-- Laws of the definitions: each rule's test decides it, and the flash of every step and call is its operations applied. They stand here, and not
-- with the definitions, so that a wrong definition is refused by them and by the tables, and not as one that cannot be read.
pub mod Decided
pub mod AppliedSteps

-- The modules of this crate.
pub mod Holds
pub mod Carried
pub mod Room
pub mod Replace
pub mod Blocks
pub mod Done
pub mod Elsewhere
pub mod Apart
pub mod Follower
pub mod NextPage
pub mod Moving
pub mod Copied
pub mod Starts
pub mod Collect
pub mod MakeRoom
pub mod Stored
pub mod DirectoryFollows

pub mod Answers
pub mod Calls
pub mod Counts
pub mod Kept
pub mod Mounts
pub mod Own
pub mod Path

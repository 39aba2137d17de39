pub mod Calls
pub mod Files
pub mod Leaves
pub mod Loads
pub mod Refusals

mod Examples
pub mod Marking

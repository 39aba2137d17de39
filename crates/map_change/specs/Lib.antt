pub mod Marks
pub mod Changes

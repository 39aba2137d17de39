pub mod Answers
pub mod Filters
pub mod Hashes
pub mod Packs
pub mod Reads

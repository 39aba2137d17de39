pub mod Booting
pub mod Scores

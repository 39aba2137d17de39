pub mod Cvars
pub mod Told

mod Examples
pub mod Expanding

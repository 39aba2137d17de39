pub mod Names
pub mod Wads
pub mod Lumps
pub mod Pictures
pub mod Images

pub mod Numbers
pub mod Draws
pub mod Files
pub mod Resources
pub mod Packs
pub mod Scripts

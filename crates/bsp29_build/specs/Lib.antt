pub mod Rows
pub mod Naming
pub mod Textures
pub mod Parents
pub mod Hulls
pub mod Sections
pub mod Images
pub mod Readers

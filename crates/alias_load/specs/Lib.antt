pub mod Models
pub mod Reading
pub mod Images
pub mod Views
pub mod Sizes
pub mod Sections
pub mod Measures
pub mod Headers

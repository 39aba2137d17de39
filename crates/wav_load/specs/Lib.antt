pub mod Chunks
pub mod Parts
pub mod Ratios
pub mod Faults
pub mod Headers
pub mod Images

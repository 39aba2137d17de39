pub mod Bounds
mod Examples
pub mod Finishes
pub mod Lines
pub mod Readings
pub mod Takes

mod Examples
pub mod Headers
pub mod Packing
pub mod Tables
pub mod Filtering
pub mod Counting

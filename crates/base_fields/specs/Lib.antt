pub mod Faults
pub mod Fields
pub mod Names
pub mod Numbers
pub mod Texts

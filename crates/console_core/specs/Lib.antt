pub mod Runs
pub mod Outside
pub mod Reading
pub mod Ends

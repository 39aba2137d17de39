mod Examples
mod Listing
mod Setting
mod Calls
mod Creating
pub mod CvarLaws
pub mod CreatedLaws

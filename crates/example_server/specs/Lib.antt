pub mod Boots
pub mod Levels

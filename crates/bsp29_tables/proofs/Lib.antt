mod Examples
mod CycleExamples
pub mod Checking
pub mod Cutting
pub mod TextureLaws
pub mod FirstLaws
pub mod SoundLaws
pub mod NameLaws
pub mod FrameLaws
pub mod LastLaws
pub mod GroupLaws

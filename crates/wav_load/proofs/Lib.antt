mod Examples
pub mod Walking
pub mod RatioLaws
pub mod HeaderLaws
pub mod Passing
pub mod SampleLaws
pub mod SoundLaws
pub mod ImageLaws

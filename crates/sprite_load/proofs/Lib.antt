mod Examples
pub mod FrameLaws
pub mod SpellingLaws
pub mod ReadingLaws
pub mod LengthLaws
pub mod RowLaws
pub mod PixelLaws
pub mod SpriteLaws
pub mod Joining
pub mod ImageLaws
pub mod HeaderLaws

mod Examples
pub mod SeriesLaws
pub mod SpellingLaws
pub mod FileLaws
pub mod PoseLaws
pub mod PieceLaws
pub mod ImageLaws
pub mod HeaderLaws

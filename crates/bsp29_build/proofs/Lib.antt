mod ParentExamples
pub mod RowEdits
pub mod ChildLaws
pub mod ParentLaws
pub mod HullLaws
pub mod Passing
pub mod Writing
pub mod TextureLaws
pub mod FineLaws
pub mod SectionLaws
pub mod ImageLaws
pub mod ReaderLaws

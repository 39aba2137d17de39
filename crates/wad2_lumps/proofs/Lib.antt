mod Examples
pub mod NameLaws
pub mod WadLaws
pub mod LumpLaws
pub mod ImageLaws

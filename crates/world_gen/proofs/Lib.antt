mod Examples
pub mod DrawLaws
pub mod LengthLaws
pub mod PackLaws
pub mod SizeLaws
pub mod ScriptLaws

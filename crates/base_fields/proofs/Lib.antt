mod Examples
pub mod Cuts
pub mod FaultLaws
pub mod FieldLaws
pub mod NameLaws
pub mod NumberLaws
pub mod TextLaws

pub mod AliasAdding
pub mod AliasAnswers
pub mod AliasChanging
pub mod AliasLaws
pub mod AliasNames
pub mod AliasReads
pub mod AliasRows
pub mod AliasSetLaws
pub mod AliasTexts
pub mod AliasWriting
pub mod Counting
pub mod Cuts
mod Examples
pub mod WordLaws

mod Examples
pub mod Beside
pub mod Rows
pub mod Naming
pub mod Entering
pub mod Kept
pub mod Caching
pub mod Lowering
pub mod Moving
pub mod Asking
pub mod Loading
pub mod Acquiring
pub mod Holding
pub mod Forgetting

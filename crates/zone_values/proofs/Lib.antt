mod Examples
pub mod Writing
mod Putting
pub mod ValueLaws
pub mod HeldLaws
pub mod OneFree

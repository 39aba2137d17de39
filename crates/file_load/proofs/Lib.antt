mod Examples
pub mod Asking
pub mod Finding
pub mod Keeping
pub mod Loading
pub mod Lows
pub mod Overwriting
pub mod Temps

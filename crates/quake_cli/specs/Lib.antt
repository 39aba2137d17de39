pub mod EndLines
pub mod Games
pub mod HostNames

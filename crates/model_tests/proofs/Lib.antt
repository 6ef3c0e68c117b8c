pub mod Formed
pub mod Planned

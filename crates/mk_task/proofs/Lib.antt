pub mod Adding
pub mod Apart
mod Numbering
mod ReadTasks
mod Shaped
pub mod Starting

pub mod Ascents
pub mod Building
pub mod Climbing
pub mod Finding
pub mod FolderKinds
pub mod Gaining
pub mod Holding
pub mod Marking
pub mod Meeting
mod Numbers
pub mod Overlaps
pub mod Placing
pub mod Reaching
pub mod Searching
pub mod SetBits
pub mod Sweeping
pub mod Tables
pub mod Uniting

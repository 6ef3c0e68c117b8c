pub mod Gives
pub mod Names
pub mod Shown
pub mod Reported

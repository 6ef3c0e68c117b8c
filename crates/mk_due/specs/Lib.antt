pub mod Awaited
pub mod Good
pub mod Items
pub mod JobsOf
pub mod Lines
pub mod RunAgain
pub mod Running

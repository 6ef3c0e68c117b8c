pub mod Good
pub mod JobsOf
pub mod Labels
pub mod Lines
pub mod Started
pub mod Tasks

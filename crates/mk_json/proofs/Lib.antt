pub mod Finding
pub mod Meanings

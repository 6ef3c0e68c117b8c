pub mod Bytes
pub mod Names
pub mod Visible

mod Building
pub mod Included
mod Reading
pub mod Reported

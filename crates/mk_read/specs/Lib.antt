pub mod Builds
pub mod Read

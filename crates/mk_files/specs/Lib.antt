pub mod Builds
pub mod Failures
pub mod Files
pub mod Includes
pub mod Inputs

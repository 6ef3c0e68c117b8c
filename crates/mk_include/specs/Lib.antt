pub mod Includes
pub mod Words

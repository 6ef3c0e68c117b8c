pub mod Hashing

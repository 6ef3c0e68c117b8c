pub mod Covering
pub mod Laws
pub mod Paths
pub mod Ranges
pub mod Taken
pub mod Texts

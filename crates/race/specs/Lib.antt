pub mod Arguments
pub mod Disk

pub mod Attached
pub mod FootReader
pub mod Footprints
pub mod Json
pub mod Lines
pub mod Once

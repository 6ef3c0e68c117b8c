pub mod Certificates
pub mod Laws
pub mod Pairs
pub mod Races
pub mod Standing
pub mod Sure
pub mod Traces

pub mod Added
pub mod Again
pub mod AllRaces
pub mod Fixes
pub mod Laws
pub mod Musts

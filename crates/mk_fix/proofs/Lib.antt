pub mod Adding
pub mod Cleaning
pub mod Direct
pub mod Fixing
pub mod Made
pub mod Musting
pub mod Racing
pub mod Remade

pub mod Fed
pub mod Lexical
pub mod LineFeed
pub mod ListReader
pub mod Listing
pub mod Spelling

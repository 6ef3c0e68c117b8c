pub mod TextTable
pub mod ReadPairs

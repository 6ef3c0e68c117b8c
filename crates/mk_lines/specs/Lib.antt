pub mod Blocks
pub mod GivesLines
pub mod LogicalLine
pub mod LogicalLines
pub mod Outside
pub mod Parts
pub mod Pieces
pub mod Slices

pub mod FixLines
pub mod MissingLines
pub mod OrderLines
pub mod PastTheEnd
pub mod RaceLines

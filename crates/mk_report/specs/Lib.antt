pub mod FixText
pub mod MissingText
pub mod RacesText
pub mod ReportText
pub mod Reports

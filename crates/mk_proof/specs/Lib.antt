pub mod Drafts
pub mod ProofText
pub mod Shapes
pub mod Tables

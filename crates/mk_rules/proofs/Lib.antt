pub mod Beginning
pub mod BothTexts
pub mod EntryAnswers
pub mod Firsts
pub mod Indexes
pub mod Leading
pub mod LineLeads
mod Notes
mod Pairs
pub mod PlacedLines
mod Recipes
pub mod SayOnce
pub mod SecondRecipes
pub mod SpelledWords
mod Taken
pub mod WordLeads

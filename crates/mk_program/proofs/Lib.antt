mod Answering
mod BuildAnswers
mod Builds
mod Failing
mod Fixings
mod MissingAnswers
mod NoNode
mod Noted
mod OutcomeLines
mod PlanLines
mod RaceLists
mod Replies
mod SerialAnswers
mod TaskAnswers
pub mod Judged

pub mod Integer
pub mod Kind
pub mod Parameter
pub mod Answer
pub mod AnswerLaws
pub mod Commits
pub mod Laws
pub mod PowerCut

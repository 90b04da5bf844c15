pub mod Text
pub mod Candidate
pub mod Answer
pub mod AnswerLaws
pub mod File
pub mod Laws

pub mod Answer
pub mod AnswerLaws
pub mod History
pub mod Cause
pub mod Notes
pub mod Laws

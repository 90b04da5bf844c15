pub mod HistoryLaws
pub mod SinceLaws
pub mod ReasonLaws
pub mod SupplyLaws
pub mod ChecksumLaws
pub mod Laws
pub mod AnswerLaws

pub mod FileLaws
pub mod CandidateLaws

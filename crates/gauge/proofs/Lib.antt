pub mod WriteLaws
pub mod ReadLaws

pub mod ExplainLaws
pub mod PutLaws

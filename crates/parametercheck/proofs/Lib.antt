pub mod KindLaws
pub mod ErrorLaws

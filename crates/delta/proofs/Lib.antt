pub mod SpanLaws
pub mod TextLaws
pub mod CompareLaws

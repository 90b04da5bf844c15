pub mod LineLaws
pub mod StateLaws

pub mod DecodeLaws
pub mod LoopLaws

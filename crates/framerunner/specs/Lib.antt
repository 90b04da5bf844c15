pub mod Answer
pub mod Track

pub mod Lines
pub mod Cases
pub mod Session
pub mod Why

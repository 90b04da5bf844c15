pub mod CheckedLaws
pub mod EventLaws
pub mod HeldLaws
pub mod FileLaws

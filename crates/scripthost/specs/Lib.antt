pub mod Checked
pub mod Held

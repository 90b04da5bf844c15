pub mod Hex
pub mod Laws
pub mod Scan

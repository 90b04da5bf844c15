pub mod Checksum
pub mod Laws

pub mod ChecksumLaws
pub mod Laws

pub mod Run
pub mod Delta
pub mod Text
pub mod Compare
pub mod Laws

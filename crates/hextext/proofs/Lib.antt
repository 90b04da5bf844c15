pub mod StoreLaws
pub mod HexLaws
pub mod Laws
pub mod ScanLaws

pub mod BlockLaws
pub mod RowLaws
pub mod SendLaws
pub mod FetchLaws
pub mod Laws

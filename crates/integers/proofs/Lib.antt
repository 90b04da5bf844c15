pub mod Laws
pub mod ByteLaws
pub mod KindLaws

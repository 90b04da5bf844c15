pub mod BlockLaws
pub mod ClassLaws
pub mod Laws
pub mod AnswerLaws
pub mod LineLaws
pub mod RoundTrip
pub mod TextLaws
pub mod CallLaws

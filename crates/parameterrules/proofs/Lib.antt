pub mod Laws
pub mod AnswerLaws
pub mod IntegerLaws
pub mod PlaceLaws
pub mod ParameterLaws
pub mod PowerCutLaws
pub mod GaugeLaws

pub mod Place
pub mod CountLaws

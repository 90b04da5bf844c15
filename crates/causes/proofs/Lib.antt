pub mod TrackLaws
pub mod TextLaws

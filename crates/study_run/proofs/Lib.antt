pub mod RunLaws
pub mod SettledLaws
pub mod PlaceLaws
pub mod TurnLaws

pub mod NumberLaws
pub mod DrawLaws
pub mod Front
pub mod PlaceLaws
pub mod Accepted
pub mod Cases

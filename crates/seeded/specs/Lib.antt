pub mod Draws
pub mod Seeded
pub mod Left
pub mod Cases

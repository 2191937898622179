pub mod CallExports
pub mod FrameExports
pub mod MicroNumber
pub mod ReactionExports
pub mod SeedExports
pub mod Stored
pub mod TableExports
pub mod Version

pub mod CallExports
pub mod Stored

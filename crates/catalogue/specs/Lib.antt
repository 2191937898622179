pub mod Choices
pub mod Text
pub mod Built

pub mod Limbs
pub mod Rounding
pub mod Nearest
pub mod Words
pub mod Capped
pub mod Text
pub mod Spelled
pub mod Exports

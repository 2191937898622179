pub mod Ascii
pub mod Written
pub mod Digits
pub mod Hex
pub mod Sink

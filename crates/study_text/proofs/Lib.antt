pub mod Made
pub mod SaysLaws
pub mod NumberLaws
pub mod WordsLaws
pub mod CitationsLaws

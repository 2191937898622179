pub mod FlatLaws
pub mod ChoicesLaws
pub mod TextLaws
pub mod BuildLaws
pub mod Built
pub mod LineLaws
pub mod LineCases
pub mod EveryLine

pub mod PutLaws
pub mod DigitsLaws
pub mod HexLaws
pub mod SinkLaws

pub mod ReadLaws
pub mod BackLaws

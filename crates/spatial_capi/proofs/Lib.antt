pub mod CallExportsLaws
pub mod ReadLaws

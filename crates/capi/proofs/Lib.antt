pub mod CallExportsLaws
pub mod ReadLaws
pub mod SeedExportsLaws
pub mod TableExportsLaws

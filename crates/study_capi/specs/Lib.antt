pub mod StudyExports
pub mod ReadBack

pub mod Outcomes
pub mod MergeRule
pub mod TakeLaws
pub mod RemoveLaws
pub mod Kept
pub mod Coincide

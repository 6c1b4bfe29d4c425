pub mod Around
pub mod Edits
pub mod EditsLaws
pub mod Whole

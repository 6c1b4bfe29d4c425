pub mod Kept
pub mod Example

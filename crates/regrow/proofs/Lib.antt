pub mod Steps
pub mod MergeSteps

pub mod Steps
pub mod CutSteps

pub mod Outcomes
pub mod OldLaws
pub mod MadeLaws
pub mod Coincide

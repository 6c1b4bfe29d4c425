pub mod End
pub mod Outcome
pub mod EndLaws
pub mod RangeLaws
pub mod Coincide

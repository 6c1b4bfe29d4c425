pub mod Outcomes
pub mod GetLaws
pub mod ValueLaws
pub mod Coincide

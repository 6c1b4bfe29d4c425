pub mod Outcomes
pub mod PassedLaws
pub mod TakenOutLaws
pub mod ReplaceLaws
pub mod PlacedLaws
pub mod InsertLaws
pub mod Kept
pub mod Coincide

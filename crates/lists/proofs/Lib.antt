pub mod PartLaws
pub mod FillLaws
pub mod Shift

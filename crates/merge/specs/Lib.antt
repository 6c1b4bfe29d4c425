pub mod Behind
pub mod BehindLaws
pub mod MergeLaws
pub mod Merges
pub mod NodeLaws

pub mod Regrow
pub mod Examples
pub mod RegrowLaws
pub mod Merge
pub mod MergeLaws

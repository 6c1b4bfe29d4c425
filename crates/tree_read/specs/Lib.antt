pub mod Check
pub mod CheckCode
pub mod PairCheck
pub mod LeafCheck
pub mod RunCheck
pub mod WCheck
pub mod Decided
pub mod Opened

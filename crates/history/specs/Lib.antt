pub mod Histories
pub mod Says
pub mod Stands
pub mod Answers
pub mod Demand3

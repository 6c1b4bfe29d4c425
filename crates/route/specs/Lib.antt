pub mod Routes
pub mod RouteLaws
pub mod FindRouted
pub mod Lookups

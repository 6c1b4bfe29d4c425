pub mod All
pub mod Part
pub mod Fill
pub mod Map
pub mod Exact

pub mod Used
pub mod Takes
pub mod TakeLaws
pub mod Cuts
pub mod CutLaws

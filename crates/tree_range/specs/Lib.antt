pub mod Scans
pub mod ScanSteps
pub mod Outcomes
pub mod FoundLaws
pub mod Coincide
pub mod Walked

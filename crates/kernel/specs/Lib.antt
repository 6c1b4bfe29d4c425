pub mod Coincide
pub mod Refused

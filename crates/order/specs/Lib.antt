pub mod Bytes
pub mod OrderLaws
pub mod CommonLaws
pub mod Compared

pub mod Bits
pub mod BitLaws
pub mod Free
pub mod FreeLaws

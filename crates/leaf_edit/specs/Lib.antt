pub mod Shorten
pub mod ShortenLaws

pub mod Feeds
pub mod FeedLaws
pub mod Coincide

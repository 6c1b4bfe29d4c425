pub mod Spots
pub mod SpotLaws
pub mod KeySpots
pub mod SeekLaws

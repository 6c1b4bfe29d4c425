pub mod Leaf
pub mod Keys
pub mod KeyLaws
pub mod Finds
pub mod FindLaws

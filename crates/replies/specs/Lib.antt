pub mod Texts
pub mod Replies
pub mod Leaves
pub mod LeavesLaws
pub mod ReplyLaws

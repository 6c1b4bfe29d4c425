pub mod Replies
pub mod OneReply

pub mod Example
pub mod Script
pub mod ScriptLaws

pub mod PairEdits
pub mod InsertLaws
pub mod OldLaws
pub mod RemoveLaws
pub mod ReplaceLaws

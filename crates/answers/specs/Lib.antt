pub mod Answers
pub mod AnswerLaws
pub mod Said
pub mod SaidLaws

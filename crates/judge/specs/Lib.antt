pub mod Judges
pub mod CutsAt
pub mod AnswerLaws
pub mod PlanReads
pub mod PlanLaws
pub mod JudgeLaws
pub mod PlanSplits
pub mod Planned

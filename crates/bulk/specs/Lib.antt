pub mod Job
pub mod JobLaws
pub mod Bulk
pub mod BulkLaws
pub mod RowLaws

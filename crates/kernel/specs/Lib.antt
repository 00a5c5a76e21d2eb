-- The contracts of the public calls, and that each fixes the answer and every lent slice.
pub mod Results
pub mod RowLaws
pub mod JobLaws
pub mod Unique
pub mod Shams

-- Facts that the proofs of the functions cite, a file for each subject.
pub mod Columns
pub mod Entries
pub mod Terms

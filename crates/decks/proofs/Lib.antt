-- Facts that the proofs of the functions cite, a file for each subject.
pub mod Answers
pub mod Settling

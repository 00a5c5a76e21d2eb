-- Facts that the proofs of the functions cite, a file for each subject.
pub mod Record
pub mod Points
pub mod Surplus
pub mod Numbers
pub mod Lots

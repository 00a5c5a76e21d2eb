-- Facts that the proofs of the functions cite, a file for each subject.
pub mod Reading
pub mod Filling
pub mod Shooting

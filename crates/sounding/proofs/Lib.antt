-- Facts that the proofs of the functions cite, a file for each subject.
pub mod Zeros
pub mod Tables
pub mod Record
pub mod Pairs

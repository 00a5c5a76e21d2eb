-- Facts on numbers and residues that the proofs of the functions cite, a file for each subject.
pub mod Numbers
pub mod Trials
pub mod Powers
pub mod Euclid

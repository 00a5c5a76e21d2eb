-- Facts that the proofs of the functions cite, a file for each subject.
pub mod Horner
pub mod Stores
pub mod Searches
pub mod Linear
pub mod Newton
pub mod Rows
pub mod WorkRows
pub mod Ranges

-- Facts on lists and rows that the proofs of the functions cite, a file for each subject.
pub mod Bounds
pub mod Chain
pub mod Fall
pub mod Monic
pub mod Order
pub mod Places
pub mod Rest
pub mod Sides
pub mod Trim
pub mod Turns
pub mod Value
pub mod Work

-- Facts that the proofs of the functions cite.
pub mod Tests
pub mod Chain

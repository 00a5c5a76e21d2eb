-- Commutative rings, finite sums and determinants.
pub mod Ring
pub mod RingLaws
pub mod Solver
pub mod Sum
pub mod SumLaws
pub mod Alt
pub mod Matrix
pub mod MatrixLaws
pub mod Det
pub mod DetLaws
pub mod DetSwap
pub mod DetRows
pub mod DetMove
pub mod Hom

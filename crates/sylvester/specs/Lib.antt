-- Sylvester's matrix and the laws of its determinant.
pub mod Sylvester
pub mod Shift
pub mod Laws

-- Why the formula of the monic remainder sequence is Sylvester's determinant.
pub mod SequenceLaws

-- Numbers after one another.
pub mod Rows

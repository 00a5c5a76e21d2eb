-- Which number a call answers for its input, and what a number 0 says of it.
pub mod Outcome
pub mod Refusal
pub mod Shape
pub mod Parts
pub mod Facts

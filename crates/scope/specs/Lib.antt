-- What the kernel computes, and which number each call answers.
pub mod Pair
pub mod Point
pub mod Number
pub mod Computing
pub mod Figures
pub mod Answers
pub mod Search
pub mod TableLaws
pub mod Evaluation
pub mod Degree
pub mod Recovery
pub mod Usable
pub mod TestLaws

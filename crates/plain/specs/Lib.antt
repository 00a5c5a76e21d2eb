-- What the determinant by expansion along rows is promised to be.
pub mod Expansion
pub mod Rows

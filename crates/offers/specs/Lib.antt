-- What the contracts of this crate cite.
pub mod Answer
pub mod Lent
pub mod Among

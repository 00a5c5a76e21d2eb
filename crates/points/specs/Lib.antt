-- What the contracts of this crate cite, and laws of the usable points that its callers may.
pub mod Table
pub mod Step
pub mod Usables
pub mod Lent

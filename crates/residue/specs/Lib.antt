-- Residues modulo a number, and what a prime modulus adds: inverses.
pub mod Prime
pub mod PrimeLaws
pub mod Remainder
pub mod Cut
pub mod ResidueRing
pub mod Residue
pub mod ResidueLaws
pub mod Inverse
pub mod InverseLaws
pub mod Computed

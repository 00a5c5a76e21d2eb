-- Polynomials over a commutative ring: the ring of them, values, interpolation.
pub mod Convolution
pub mod ConvolutionLaws
pub mod PolyRing
pub mod Poly
pub mod PolyLaws
pub mod Value
pub mod ValueLaws
pub mod Interpolation
pub mod InterpolationLaws

-- Polynomials over a commutative ring as a commutative ring. A polynomial is a function from the power to its coefficient.
--
--   poly R          the ring of them: sums by coefficient, the product by convolution; its laws are those of `PolyRing`
--
-- `poly` unfolds everywhere, so that its carrier is ℕ → C to every reader; its operations stay shut behind `PolyLaws`.
use Rattle.std.specs.Prelude.{ℕ}
use Rattle.ring.specs.Ring.{Ring}
use Rattle.polynomial.specs.Convolution.{plus, minus, nil, conv, one}
use Rattle.polynomial.specs.PolyRing.{plus_assoc, plus_comm, plus_nil, plus-minus, times_assoc, times_comm, times-one, times_dist}

module _ (R : Ring) where
  open R use {C}

  abbrev pub poly : Ring
  poly = record {
    C = ℕ → C;
    ◌⊕◌ = plus R;
    ◌⊗◌ = conv R;
    ⊖◌ = minus R;
    𝟘 = nil R;
    𝟙 = one R;
    ⊕_assoc = plus_assoc R;
    ⊕_comm = plus_comm R;
    ⊕-zero = plus_nil R;
    ⊕-neg = plus-minus R;
    ⊗_assoc = times_assoc R;
    ⊗_comm = times_comm R;
    ⊗-one = times-one R;
    ⊗_dist = times_dist R;
  }

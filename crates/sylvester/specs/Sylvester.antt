-- Sylvester's matrix at declared degrees, over any commutative ring. A polynomial in x is its coefficient function,
-- the coefficient of x^j at j; its declared degree is given apart and its leading coefficients may be zero.
--
--   top R m a            a_m .. a_0, highest power first, then zeros
--   moved R i r          r moved i places right, zeros in front
--   sylvester R m n a b  n rows a_m .. a_0, each moved one place right of the row above, then m rows b_n .. b_0 likewise
--   resultant R m n a b  the determinant of that matrix, of size m + n
use Rattle.std.specs.Prelude.{ℕ, zero, suc, ◌+◌}
use Rattle.ring.specs.Ring.{Ring}
use Rattle.ring.specs.Det.{det}
use Rattle.ring.specs.Matrix.{stack}

module _ (R : Ring) where
  open R use {C, 𝟘}

  unfoldable pub top : ℕ → (ℕ → C) → ℕ → C
  top m a zero = a m
  top zero a (suc k) = 𝟘
  top (suc m) a (suc k) = top m a k

  unfoldable pub moved : ℕ → (ℕ → C) → ℕ → C
  moved zero r k = r k
  moved (suc i) r zero = 𝟘
  moved (suc i) r (suc k) = moved i r k

  unfoldable pub sylvester : ℕ → ℕ → (ℕ → C) → (ℕ → C) → ℕ → ℕ → C
  sylvester m n a b = stack n (λ i. moved i (top m a)) (λ i. moved i (top n b))

  unfoldable pub resultant : ℕ → ℕ → (ℕ → C) → (ℕ → C) → C
  resultant m n a b = det R (m + n) (sylvester m n a b)

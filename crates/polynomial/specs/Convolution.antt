-- The operations on polynomials. A polynomial is a function from the power to its coefficient.
--
--   plus R f g      the sum, coefficient by coefficient
--   minus R f       the negative
--   nil R           0, 0, 0, ..
--   conv R f g k    the product at k: the sum of f i ⊗ g j over i + j = k, by recursion on k
--   one R           1, 0, 0, ..
use Rattle.std.specs.Prelude.{ℕ, zero, suc}
use Rattle.ring.specs.Ring.{Ring}

module _ (R : Ring) where
  open R use {C, ◌⊕◌, ◌⊗◌, ⊖◌, 𝟘, 𝟙}

  unfoldable pub plus : (ℕ → C) → (ℕ → C) → ℕ → C
  plus f g k = f k ⊕ g k

  unfoldable pub minus : (ℕ → C) → ℕ → C
  minus f k = ⊖ f k

  unfoldable pub nil : ℕ → C
  nil k = 𝟘

  unfoldable pub conv : (ℕ → C) → (ℕ → C) → ℕ → C
  conv f g zero = f zero ⊗ g zero
  conv f g (suc k) = (f zero ⊗ g (suc k)) ⊕ conv (λ i. f (suc i)) g k

  unfoldable pub one : ℕ → C
  one zero = 𝟙
  one (suc k) = 𝟘

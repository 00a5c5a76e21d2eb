-- Finite sums and alternating sums, from the front.
--
--   sum R n f       f 0 + f 1 + .. + f (n-1)
--   alt R n f       f 0 - f 1 + f 2 - .. , n terms
use Rattle.std.specs.Prelude.{ℕ, zero, suc}
use Rattle.ring.specs.Ring.{Ring}

module _ (R : Ring) where
  open R use {C, ◌⊕◌, ⊖◌, 𝟘}

  unfoldable pub sum : ℕ → (ℕ → C) → C
  sum zero f = 𝟘
  sum (suc n) f = f zero ⊕ sum n (λ i. f (suc i))

  unfoldable pub alt : ℕ → (ℕ → C) → C
  alt zero f = 𝟘
  alt (suc n) f = f zero ⊕ (⊖ (alt n (λ i. f (suc i))))

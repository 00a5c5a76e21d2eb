-- Degree bounds and values of polynomials.
--
--   AtMost R d f       f has degree at most d: its coefficients after d are 𝟘
--   value R N f x      the value at x of the first N coefficients: the sum of f i ⊗ x^i for i < N
--   Takes R x d f v    f has degree at most d, and its value at x is v
--   total n e          the number e 0 + .. + e (n-1)
use Rattle.std.specs.Prelude.{ℕ, zero, suc, ◌+◌, ◌<◌, ◌≡◌}
use Rattle.ring.specs.Ring.{Ring, pow}
use Rattle.ring.specs.Sum.{sum}

unfoldable pub total : ℕ → (ℕ → ℕ) → ℕ
total zero e = zero
total (suc n) e = e zero + total n (λ i. e (suc i))

module _ (R : Ring) where
  open R use {C, ◌⊗◌, 𝟘}

  abbrev pub AtMost : ℕ → (ℕ → C) → Type 0
  AtMost d f = (k : ℕ) → d < k → f k ≡ 𝟘

  unfoldable pub value : ℕ → (ℕ → C) → C → C
  value N f x = sum R N (λ i. f i ⊗ pow R x i)

  pub record Takes (x : C) (d : ℕ) (f : ℕ → C) (v : C) : Type 0 where
    pub bound : AtMost d f
    pub value : value (suc d) f x ≡ v

-- Determinants by expansion along the first row. A matrix is a function of row and column; its size is given apart,
-- and entries outside the size are never looked at.
--
--   skip j k        the column k of a matrix from which column j was taken out
--   minor A j       A without its first row and its column j
--   det R n A       the determinant of the n by n matrix A
use Rattle.std.specs.Prelude.{ℕ, zero, suc}
use Rattle.ring.specs.Ring.{Ring}
use Rattle.ring.specs.Sum.{alt}

unfoldable pub skip : ℕ → ℕ → ℕ
skip zero k = suc k
skip (suc j) zero = zero
skip (suc j) (suc k) = suc (skip j k)

module _ (R : Ring) where
  open R use {C, ◌⊗◌, 𝟙}

  abbrev pub minor : (ℕ → ℕ → C) → ℕ → ℕ → ℕ → C
  minor A j i k = A (suc i) (skip j k)

  unfoldable pub det : ℕ → (ℕ → ℕ → C) → C
  det zero A = 𝟙
  det (suc n) A = alt R (suc n) (λ j. A zero j ⊗ det n (minor A j))

-- Matrices made from rows. A matrix is a function of row and column; its rows are functions of the column.
--
--   put i r A       A with its row i replaced by r
--   stack n f g     the first n rows of f, then the rows of g
use Rattle.std.specs.Prelude.{ℕ, zero, suc}

module _ {C : Type 0} where
  unfoldable pub put : ℕ → (ℕ → C) → (ℕ → ℕ → C) → ℕ → ℕ → C
  put zero r A zero = r
  put zero r A (suc j) = A (suc j)
  put (suc i) r A zero = A zero
  put (suc i) r A (suc j) = put i r (λ i. A (suc i)) j

  unfoldable pub stack : ℕ → (ℕ → ℕ → C) → (ℕ → ℕ → C) → ℕ → ℕ → C
  stack zero f g i = g i
  stack (suc n) f g zero = f zero
  stack (suc n) f g (suc i) = stack n (λ i. f (suc i)) g i

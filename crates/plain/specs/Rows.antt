-- Sylvester's matrix of two rows of numbers modulo p, entry by entry.
--
--   shifted_row p a i     a_m .. a_0, moved i places right, zeros around
--   row_matrix p a b      Sylvester's matrix of the rows a and b; row_determinant p a b is its determinant
use Rattle.std.specs.Prelude.{ℕ, List}
use Rattle.ring.specs.Ring.{Ring}
use Rattle.residue.specs.Residue.{residues}
use Rattle.sylvester.specs.Sylvester.{top, moved, sylvester}
use Rattle.euclid.specs.Row.{coef, declared}

unfoldable pub shifted_row : (p : ℕ) → List ℕ → ℕ → ℕ → Ring.C (residues p)
shifted_row p a i = moved (residues p) i (top (residues p) (declared a) (coef p a))

unfoldable pub row_matrix : (p : ℕ) → List ℕ → List ℕ → ℕ → ℕ → Ring.C (residues p)
row_matrix p a b = sylvester (residues p) (declared a) (declared b) (coef p a) (coef p b)

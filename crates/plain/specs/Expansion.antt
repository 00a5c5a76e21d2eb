-- Matrices in tables of 36 numbers, six to a row, and expansion along the first row.
--
--   cell p t i k             the residue modulo p of the number in row i and column k of the table t
--   part A row cols          the matrix A from its row `row` on, in the columns that cols lists
--   Columns n cols           the first n entries of cols are columns of a table
--   signed R n A j           the term of column j in the expansion of the (n+1) by (n+1) matrix A along its first row
use Rattle.std.specs.Prelude.{ℕ, zero, ◌+◌, ◌*◌, ◌<◌, List, get_or}
use Rattle.ring.specs.Ring.{Ring, sign}
use Rattle.ring.specs.Det.{det, minor}
use Rattle.residue.specs.Residue.{residues, res}

unfoldable pub cell : (p : ℕ) → List ℕ → ℕ → ℕ → Ring.C (residues p)
cell p t i k = res p (get_or t (i * 6 + k) 0)

unfoldable pub part : {C : Type 0} → (ℕ → ℕ → C) → ℕ → List ℕ → ℕ → ℕ → C
part A row cols i k = A (row + i) (get_or cols k 0)

abbrev pub Columns : ℕ → List ℕ → Type 0
Columns n cols = (k : ℕ) → k < n → get_or cols k 0 < 6

module _ (R : Ring) where
  open R use {C, ◌⊗◌}

  unfoldable pub signed : ℕ → (ℕ → ℕ → C) → ℕ → C
  signed n A j = sign R j ⊗ (A zero j ⊗ det R n (minor R A j))

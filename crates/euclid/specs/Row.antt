-- Rows: polynomials in one variable modulo p, as lists of numbers, lowest power first.
--
--   coef p r            the coefficients of the row r as residues modulo p; 0 past its end
--   trim r              r cut after its last nonzero entry; empty for an all-zero or empty row
--   degree r            the true degree: the largest power that occurs (0 for an all-zero row too)
--   lead r              the entry of that power
--   declared r          the declared degree: one less than the row has entries (0 for an empty row)
--   row_determinant p a b   the determinant of Sylvester's matrix of two rows, modulo p
use Rattle.std.specs.Prelude.{ℕ, zero, suc, List, [], ◌∷◌, length, get_or}
use Rattle.ring.specs.Ring.{Ring}
use Rattle.residue.specs.Residue.{residues, res}
use Rattle.sylvester.specs.Sylvester.{resultant}

unfoldable pub coef : (p : ℕ) → List ℕ → ℕ → Ring.C (residues p)
coef p r j = res p (get_or r j 0)

-- an entry in front of a trimmed row
unfoldable pub joined : ℕ → List ℕ → List ℕ
joined zero [] = []
joined (suc x) [] = suc x ∷ []
joined x (y ∷ r) = x ∷ y ∷ r

unfoldable pub trim : List ℕ → List ℕ
trim [] = []
trim (x ∷ r) = joined x (trim r)

unfoldable pub declared : List ℕ → ℕ
declared [] = 0
declared (x ∷ r) = length r

unfoldable pub degree : List ℕ → ℕ
degree r = declared (trim r)

unfoldable pub lead : List ℕ → ℕ
lead r = get_or r (degree r) 0

unfoldable pub row_determinant : (p : ℕ) → List ℕ → List ℕ → Ring.C (residues p)
row_determinant p a b = resultant (residues p) (declared a) (declared b) (coef p a) (coef p b)

-- What the row calls answer and leave behind, on any input. A refused call carries 0 for every value and count.
--
--   only_done r x              x where the number r is 0, else 0
--   row_value, row_count        the row resultant's value and steps
--   plain_value                the plain determinant's value
--   divided_row, divided_count  the work row after a division, and the count of steps
use Rattle.std.specs.Prelude.{ℕ, cond, List, ◌++◌, eqb, length}
use Rattle.residue.specs.Residue.{val}
use Rattle.euclid.specs.Row.{declared, row_determinant}
use Rattle.euclid.specs.Division.{remainder, quotient, count}
use Rattle.euclid.specs.Sequence.{row_steps}
use Rattle.scope.specs.Number.{row_number, plain_number, division_number}

unfoldable pub only_done : ℕ → ℕ → ℕ
only_done r x = cond (eqb r 0) x 0

unfoldable pub row_value : ℕ → List ℕ → List ℕ → ℕ
row_value p a b = only_done (row_number p a b) (val p (row_determinant p a b))

unfoldable pub row_count : ℕ → List ℕ → List ℕ → ℕ
row_count p a b = only_done (row_number p a b) (row_steps p a b)

unfoldable pub plain_value : ℕ → List ℕ → List ℕ → ℕ
plain_value p a b = only_done (plain_number p a b) (val p (row_determinant p a b))

unfoldable pub divided_row : ℕ → List ℕ → List ℕ → List ℕ
divided_row p row b = cond (eqb (division_number p row b) 0) (remainder p row b ++ quotient p row b) row

unfoldable pub divided_count : ℕ → List ℕ → List ℕ → ℕ
divided_count p row b = only_done (division_number p row b) (count (length row) (declared b))

-- What the row resultant and the determinant at declared degrees ask of a row.
--
--   IsRow p r          a row of residues modulo p: at most 17 entries, the last not 0
--   IsDeclared p r     the same, where the last may be 0: 1 to 17 entries
use Rattle.std.specs.Prelude.{ℕ, ◌<◌, ◌≤◌, List, length}
use Rattle.euclid.specs.RowLaws.{Below, Ended}

pub record IsRow (p : ℕ) (r : List ℕ) : Type 0 where
  pub ended : Ended r
  pub below : Below p r
  pub short : length r ≤ 17

pub record IsDeclared (p : ℕ) (r : List ℕ) : Type 0 where
  pub some : 0 < length r
  pub below : Below p r
  pub short : length r ≤ 17

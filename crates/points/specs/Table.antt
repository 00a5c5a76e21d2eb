-- Tables of 289 entries: 17 places to a power of x, so that the coefficient of x^i y^j stands at 17 i + j.
--
--   IsTable m d t   t is such a table, m and d are at most 16, and no row up to m has a power of y above d
--   table_of        it is one where d is the largest power of y that occurs
use Rattle.std.specs.Prelude.{ℕ, ◌<◌, ◌≤◌, List, ◌≡◌, length}
use Rattle.std.proofs.Common.{arith}
use Rattle.std.proofs.Props.{props}
use Rattle.scope.specs.Pair.{term, occurs, largest}
use Rattle.scope.specs.Search.{largest-bound}
use Rattle.scope.specs.TableLaws.{term_high}
use Rattle.scope.specs.Degree.{above-largest}

pub record IsTable (m d : ℕ) (t : List ℕ) : Type 0 where
  pub entries : length t ≡ 289
  pub rows : m ≤ 16
  pub powers : d ≤ 16
  pub above : (i j : ℕ) → i ≤ m → d < j → term 16 t i j ≡ 0

pub IsTable-prop : (m d : ℕ) (t : List ℕ) → IsProp (IsTable m d t)
IsTable-prop m d t = Prim.hlevel props

pub table_of : (m d : ℕ) (t : List ℕ) → length t ≡ 289 → m ≤ 16 → d ≡ largest 16 (occurs m (term 16 t)) → IsTable m d t
table_of m d t entries low e = record {
  entries = entries;
  rows = low;
  powers = omega (arith, e, largest-bound 16 (occurs m (term 16 t)));
  above = λ i j l h. above-largest m 16 (term 16 t) (term_high 16 t) i j l (omega (arith, e));
}

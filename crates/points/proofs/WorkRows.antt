-- Work rows that hold the two polynomials at a point.
--
--   row_alone      a work row of n places holds what was written in them, and no more
--   row_is         a row at a point is what the determinant asks for
--   rows-kept      the determinant of the two is the value kept
use Rattle.std.proofs.Common.{ℕ, ◌+◌, ◌≤◌, List, ◌++◌, length, take, ◌≡◌, arith, add-one, append-nil, sym, ap, ap₂, ◌∙◌, subst}
use Rattle.std.proofs.lemmas.List.{drop_all, length-take}
use Rattle.std.proofs.Math.Nat.{min-le_left}
use lib.ListN.{drop}
use Rattle.residue.specs.Residue.{val}
use Rattle.euclid.specs.Row.{row_determinant}
use Rattle.scope.specs.Pair.{term, tables}
use Rattle.scope.specs.Point.{row_at, row_a, row_b, kept}
use Rattle.scope.specs.Usable.{row_at-length, row_at-below}
use Rattle.rows.specs.Given.{IsDeclared}

pub row_alone : (n : ℕ) (row from : List ℕ) {w : List ℕ} → w ≡ row ++ drop n (take n from) → w ≡ row
row_alone n row from e = e ∙ ap (λ (rest : List ℕ). row ++ rest) (drop_all n (take n from) (omega (arith, length-take n from, min-le_left n (length from)))) ∙ append-nil row

pub row_is : (p m a : ℕ) (A : ℕ → ℕ → ℕ) → 2 ≤ p → m ≤ 16 → {row : List ℕ} → row ≡ row_at p m 16 A a → IsDeclared p row
row_is p m a A two low e =
    let long : length (row_at p m 16 A a) ≡ m + 1 = row_at-length p m 16 A a ∙ sym (add-one m) in
    subst (IsDeclared p) (sym e) record { some = omega (arith, long); below = row_at-below p m 16 A a (omega arith); short = omega (arith, long) }

pub rows-kept : (p m n : ℕ) (s t : List ℕ) (a : ℕ) {u w : List ℕ} → u ≡ row_at p m 16 (term 16 s) a → w ≡ row_at p n 16 (term 16 t) a
    → val p (row_determinant p u w) ≡ kept (tables p m 16 n 16 s t) a
unfolding kept row_a row_b tables
rows-kept p m n s t a first second = ap₂ (λ (x y : List ℕ). val p (row_determinant p x y)) first second

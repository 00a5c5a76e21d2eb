-- Points: what is computed at one value of y, and how many values are wanted.
--
--   tabulate n f         the list f 0, f 1, .., f (n-1)
--   value_at p e A i a    the coefficient of x^i of A, a polynomial in y, at y = a: a number below p
--   row_at p m e A a      A at y = a: a row of m + 1 numbers, lowest power first
--   row_a P a, row_b P a   the two rows at y = a
--   usable P a           the leading rows of A and of B are both nonzero at a
--   kept P a             the value kept at a point: the determinant of Sylvester's matrix of the two rows
--   needed P             how many points are needed
--   room P               how many entries a read writes
--   usables P k          the usable points below k, rising
--   enough P             as many usable points below p as are needed
--   smallest P           the smallest points that suffice
use Rattle.std.specs.Prelude.{ℕ, zero, suc, ◌+◌, Bool, cond, not, ◌&&◌, List, [], ◌∷◌, ◌++◌, leb, eqb, length, take}
use Rattle.residue.specs.Residue.{residues, res, val}
use Rattle.polynomial.specs.Value.{value}
use Rattle.euclid.specs.Row.{row_determinant}
use Rattle.scope.specs.Pair.{Pair, bound, polynomial}

unfoldable pub tabulate : ℕ → (ℕ → ℕ) → List ℕ
tabulate zero f = []
tabulate (suc n) f = f zero ∷ tabulate n (λ i. f (suc i))

unfoldable pub value_at : (p e : ℕ) → (ℕ → ℕ → ℕ) → ℕ → ℕ → ℕ
value_at p e A i a = val p (value (residues p) (suc e) (polynomial p A i) (res p a))

unfoldable pub row_at : (p m e : ℕ) → (ℕ → ℕ → ℕ) → ℕ → List ℕ
row_at p m e A a = tabulate (suc m) (λ i. value_at p e A i a)

unfoldable pub row_a : Pair → ℕ → List ℕ
row_a P a = row_at P.p P.m P.e P.A a

unfoldable pub row_b : Pair → ℕ → List ℕ
row_b P a = row_at P.p P.n P.f P.B a

unfoldable pub usable : Pair → ℕ → Bool
usable P a = not (eqb (value_at P.p P.e P.A P.m a) 0) && not (eqb (value_at P.p P.f P.B P.n a) 0)

unfoldable pub kept : Pair → ℕ → ℕ
kept P a = val P.p (row_determinant P.p (row_a P a) (row_b P a))

unfoldable pub needed : Pair → ℕ
needed P = bound P + 1

unfoldable pub room : Pair → ℕ
room P = bound P + 1

unfoldable pub usables : Pair → ℕ → List ℕ
usables P zero = []
usables P (suc k) = let before = usables P k in cond (usable P k) (before ++ k ∷ []) before

unfoldable pub enough : Pair → Bool
enough P = leb (needed P) (length (usables P P.p))

unfoldable pub smallest : Pair → List ℕ
smallest P = take (needed P) (usables P P.p)

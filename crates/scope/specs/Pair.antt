-- The two polynomials A and B in x and y modulo p, and what is to be computed from them.
--
--   place e i j          where a table of degree e in y keeps the coefficient of x^i y^j
--   size m e             how many entries a table of degrees m in x and e in y has
--   term e t i j         the coefficient of x^i y^j in the table t; 0 for j above e
--   Pair                 a modulus, two polynomials, their degrees in x (m, n), and bounds of their degrees in y (e, f)
--   tables p m e n f s t the pair that two tables give
--   some n o             o k is true for some k below n
--   largest e o          the largest j up to e with o j true; 0 where there is none
--   occurs m A j         some coefficient of x^0 y^j .. x^m y^j is not 0
--   degree_a P, degree_b P the largest powers of y that really occur: dA and dB
--   bound P              D = n dA + m dB
--   polynomial p A       A as a polynomial in x whose coefficients are polynomials in y modulo p
--   determinant P        the determinant of Sylvester's matrix of A and B over the polynomials in y modulo p
--   coefficient P k      its coefficient of y^k, as a number below p
use Rattle.std.specs.Prelude.{ℕ, zero, suc, ◌+◌, ◌*◌, Bool, false, cond, not, ◌||◌, List, leb, eqb, get_or}
use Rattle.ring.specs.Ring.{Ring}
use Rattle.residue.specs.Residue.{residues, res, val}
use Rattle.sylvester.specs.Sylvester.{resultant}
use Rattle.polynomial.specs.Poly.{poly}

unfoldable pub place : ℕ → ℕ → ℕ → ℕ
place e i j = i * (e + 1) + j

unfoldable pub size : ℕ → ℕ → ℕ
size m e = (m + 1) * (e + 1)

unfoldable pub term : ℕ → List ℕ → ℕ → ℕ → ℕ
term e t i j = cond (leb j e) (get_or t (place e i j) 0) 0

pub record Pair : Type 0 where
  pub p : ℕ
  pub m : ℕ
  pub n : ℕ
  pub e : ℕ
  pub f : ℕ
  pub A : ℕ → ℕ → ℕ
  pub B : ℕ → ℕ → ℕ

unfoldable pub tables : (p m e n f : ℕ) → List ℕ → List ℕ → Pair
tables p m e n f s t = record { p = p; m = m; n = n; e = e; f = f; A = term e s; B = term f t }

unfoldable pub some : ℕ → (ℕ → Bool) → Bool
some zero o = false
some (suc n) o = o n || some n o

unfoldable pub largest : ℕ → (ℕ → Bool) → ℕ
largest zero o = zero
largest (suc e) o = let below = largest e o in cond (o (suc e)) (suc e) below

unfoldable pub occurs : ℕ → (ℕ → ℕ → ℕ) → ℕ → Bool
occurs m A j = some (m + 1) (λ i. not (eqb (A i j) 0))

unfoldable pub degree_a : Pair → ℕ
degree_a P = largest P.e (occurs P.m P.A)

unfoldable pub degree_b : Pair → ℕ
degree_b P = largest P.f (occurs P.n P.B)

unfoldable pub bound : Pair → ℕ
bound P = P.n * degree_a P + P.m * degree_b P

unfoldable pub polynomial : (p : ℕ) → (ℕ → ℕ → ℕ) → ℕ → ℕ → Ring.C (residues p)
polynomial p A i j = res p (A i j)

unfoldable pub determinant : (P : Pair) → ℕ → Ring.C (residues P.p)
determinant P = resultant (poly (residues P.p)) P.m P.n (polynomial P.p P.A) (polynomial P.p P.B)

unfoldable pub coefficient : Pair → ℕ → ℕ
coefficient P k = val P.p (determinant P k)

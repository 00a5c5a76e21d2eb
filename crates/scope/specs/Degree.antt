-- The determinant has degree at most D, and its value at a point is the determinant of the rows there.
--
--   Within P               A and B have no power of y above their bounds e and f
--   tables_within          tables give such a pair
--   above-largest          a coefficient of a power above the largest that occurs is 0
--   determinant_takes      degree at most D, and at every point a the value kept there
use Rattle.std.specs.Prelude.{ℕ, zero, suc, ◌+◌, ◌<◌, ◌≤◌, not, List, ◌≡◌, refl, eqb, length, get_or}
use Rattle.std.proofs.Common.{arith, sym, ap, ◌∙◌, subst, eqb-true}
use Rattle.std.proofs.Math.Decide.{dec_lt}
use Rattle.std.proofs.lemmas.Bool.{not-false}
use Rattle.ring.specs.Ring.{Ring}
use Rattle.residue.specs.Residue.{residues, res}
use Rattle.residue.specs.ResidueLaws.{res-val, res-zero}
use Rattle.sylvester.specs.Sylvester.{resultant}
use Rattle.sylvester.specs.Laws.{resultant_ext}
use Rattle.polynomial.specs.Value.{AtMost, value, Takes}
use Rattle.polynomial.specs.ValueLaws.{takes-value, value_more}
use Rattle.euclid.specs.Row.{coef, declared, row_determinant}
use Rattle.scope.specs.Pair.{Pair, tables, largest, occurs, degree_a, degree_b, bound, polynomial, determinant}
use Rattle.scope.specs.Point.{tabulate, value_at, row_at, row_a, row_b}
use Rattle.scope.specs.Search.{some_false, largest-bound, largest_most}
use Rattle.scope.specs.TableLaws.{term_high}
use Rattle.scope.specs.Evaluation.{takes-resultant}

pub record Within (P : Pair) : Type 0 where
  pub in_a : (i j : ℕ) → P.e < j → P.A i j ≡ 0
  pub in_b : (i j : ℕ) → P.f < j → P.B i j ≡ 0

pub tables_within : (p m e n f : ℕ) (s t : List ℕ) → Within (tables p m e n f s t)
unfolding tables
tables_within p m e n f s t = record { in_a = term_high e s; in_b = term_high f t }

pub above-largest : (m e : ℕ) (A : ℕ → ℕ → ℕ) → ((i j : ℕ) → e < j → A i j ≡ 0) → (i j : ℕ) → i ≤ m → largest e (occurs m A) < j → A i j ≡ 0
unfolding occurs
above-largest m e A h i j b l = elim (dec_lt e j) [ yes o ↦ h i j o | no o ↦ inside (omega arith) ]
  where
    inside : j ≤ e → A i j ≡ 0
    inside o = eqb-true (A i j) 0 (not-false (eqb (A i j) 0) (some_false (m + 1) (λ i. not (eqb (A i j) 0)) (largest_most e (occurs m A) j o l) i (omega arith)))

-- the coefficient of x^i, a polynomial in y, has degree at most the largest power that occurs, and takes its value
takes_side : (p m e : ℕ) (A : ℕ → ℕ → ℕ) (a : ℕ) → ((i j : ℕ) → e < j → A i j ≡ 0) → (i : ℕ) → i ≤ m
    → Takes (residues p) (res p a) (largest e (occurs m A)) (polynomial p A i) (res p (value_at p e A i a))
unfolding polynomial value_at
takes_side p m e A a h i b =
    subst (λ (z : Ring.C (residues p)). Takes (residues p) (res p a) d (polynomial p A i) z)
    (sym (value_more (residues p) d e (polynomial p A i) (res p a) high (largest-bound e (occurs m A))) ∙ sym (res-val p (value (residues p) (suc e) (polynomial p A i) (res p a))))
    (takes-value (residues p) (res p a) d (polynomial p A i) high)
  where
    d : ℕ
    d = largest e (occurs m A)

    high : AtMost (residues p) d (polynomial p A i)
    high j l = ap (res p) (above-largest m e A h i j b l) ∙ res-zero p

pub tabulate-length : (n : ℕ) (f : ℕ → ℕ) → length (tabulate n f) ≡ n
unfolding tabulate
tabulate-length zero f = refl
tabulate-length (suc n) f = ap suc (tabulate-length n (λ i. f (suc i)))

pub tabulate-get_or : (n : ℕ) (f : ℕ → ℕ) (i : ℕ) → i < n → get_or (tabulate n f) i 0 ≡ f i
unfolding tabulate
tabulate-get_or zero f i h = absurd (omega arith)
tabulate-get_or (suc n) f zero h = refl
tabulate-get_or (suc n) f (suc i) h = tabulate-get_or n (λ i. f (suc i)) i (omega arith)

pub row_at-declared : (p m e : ℕ) (A : ℕ → ℕ → ℕ) (a : ℕ) → declared (row_at p m e A a) ≡ m
unfolding row_at declared tabulate
row_at-declared p m e A a = tabulate-length m (λ i. value_at p e A (suc i) a)

pub row_at-coef : (p m e : ℕ) (A : ℕ → ℕ → ℕ) (a i : ℕ) → i ≤ m → coef p (row_at p m e A a) i ≡ res p (value_at p e A i a)
unfolding row_at coef
row_at-coef p m e A a i h = ap (res p) (tabulate-get_or (suc m) (λ i. value_at p e A i a) i (omega arith))

pub determinant_takes : (P : Pair) → Within P → (a : ℕ)
    → Takes (residues P.p) (res P.p a) (bound P) (determinant P) (row_determinant P.p (row_a P a) (row_b P a))
unfolding bound determinant degree_a degree_b row_determinant row_a row_b
determinant_takes P w a =
    subst (λ (z : Ring.C (residues P.p)). Takes (residues P.p) (res P.p a) (bound P) (determinant P) z)
    (sym same)
    (takes-resultant (residues P.p) (res P.p a) P.m P.n (degree_a P) (degree_b P)
    (polynomial P.p P.A) (polynomial P.p P.B) u v
    (takes_side P.p P.m P.e P.A a w.in_a) (takes_side P.p P.n P.f P.B a w.in_b))
  where
    u : ℕ → Ring.C (residues P.p)
    u i = res P.p (value_at P.p P.e P.A i a)

    v : ℕ → Ring.C (residues P.p)
    v i = res P.p (value_at P.p P.f P.B i a)

    sizes : (k l : ℕ) → k ≡ P.m → l ≡ P.n
        → resultant (residues P.p) k l (coef P.p (row_a P a)) (coef P.p (row_b P a)) ≡ resultant (residues P.p) P.m P.n (coef P.p (row_a P a)) (coef P.p (row_b P a))
    sizes k l hk hl = rw (hk, hl) refl

    same : row_determinant P.p (row_a P a) (row_b P a) ≡ resultant (residues P.p) P.m P.n u v
    same =
        sizes (declared (row_a P a)) (declared (row_b P a)) (row_at-declared P.p P.m P.e P.A a) (row_at-declared P.p P.n P.f P.B a)
        ∙ resultant_ext (residues P.p) P.m P.n (coef P.p (row_a P a)) u (coef P.p (row_b P a)) v
        (λ i h. row_at-coef P.p P.m P.e P.A a i h) (λ i h. row_at-coef P.p P.n P.f P.B a i h)

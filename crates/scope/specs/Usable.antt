-- At a usable point the two rows have nonzero last entries, and the value kept there is their row resultant.
--
--   row_at-below          the entries of a row at a point are residues
--   usable-ended         at a usable point both rows end in a nonzero entry
--   kept-resultant       the kept value is the resultant formula's
use Rattle.std.specs.Prelude.{ℕ, suc, ◌<◌, ◌≤◌, Bool, true, false, not, ◌&&◌, ◌≡◌, refl, eqb, length, get_or}
use Rattle.std.proofs.Common.{arith, sym, ap, ◌∙◌}
use Rattle.std.proofs.Math.Decide.{dec_lt}
use Rattle.std.proofs.Math.ListN.{get_or-eq_default}
use Rattle.std.proofs.lemmas.Bool.{eqb-false, not-true}
use Rattle.residue.specs.Prime.{Prime}
use Rattle.residue.specs.Residue.{residues, res, val}
use Rattle.residue.specs.ResidueLaws.{val-lt}
use Rattle.polynomial.specs.Value.{value}
use Rattle.euclid.specs.RowLaws.{Below, Ended}
use Rattle.euclid.specs.Sequence.{row_resultant}
use Rattle.euclid.proofs.SequenceLaws.{row_resultant-right}
use Rattle.scope.specs.Pair.{Pair, polynomial}
use Rattle.scope.specs.Point.{value_at, row_at, row_a, row_b, usable, kept}
use Rattle.scope.specs.Degree.{tabulate-length, tabulate-get_or, row_at-declared}

pub row_at-length : (p m e : ℕ) (A : ℕ → ℕ → ℕ) (a : ℕ) → length (row_at p m e A a) ≡ suc m
unfolding row_at
row_at-length p m e A a = tabulate-length (suc m) (λ i. value_at p e A i a)

pub row_at-get_or : (p m e : ℕ) (A : ℕ → ℕ → ℕ) (a i : ℕ) → i ≤ m → get_or (row_at p m e A a) i 0 ≡ value_at p e A i a
unfolding row_at
row_at-get_or p m e A a i h = tabulate-get_or (suc m) (λ i. value_at p e A i a) i (omega arith)

pub value_at-below : (p e : ℕ) (A : ℕ → ℕ → ℕ) (i a : ℕ) → 0 < p → value_at p e A i a < p
unfolding value_at
value_at-below p e A i a pos = val-lt p pos (value (residues p) (suc e) (polynomial p A i) (res p a))

pub row_at-below : (p m e : ℕ) (A : ℕ → ℕ → ℕ) (a : ℕ) → 0 < p → Below p (row_at p m e A a)
row_at-below p m e A a pos i = elim (dec_lt m i) [ yes o ↦ past o | no o ↦ inside (omega arith) ]
  where
    past : m < i → get_or (row_at p m e A a) i 0 < p
    past o =
        let z : get_or (row_at p m e A a) i 0 ≡ 0 = get_or-eq_default (row_at p m e A a) 0 (omega (arith, row_at-length p m e A a)) in omega arith

    inside : i ≤ m → get_or (row_at p m e A a) i 0 < p
    inside o = omega (arith, row_at-get_or p m e A a i o, value_at-below p e A i a pos)

pub and_true : (a b : Bool) → (a && b) ≡ true → (a ≡ true) × (b ≡ true)
and_true true b e = (refl, e)
and_true false b e = let z : ◌≡◌ {A = ℕ} 0 1 = cc in absurd (omega arith)

-- a row whose value of the leading coefficient is not 0 ends so
row_at-ended : (p m e : ℕ) (A : ℕ → ℕ → ℕ) (a : ℕ) → not (eqb (value_at p e A m a) 0) ≡ true → Ended (row_at p m e A a)
row_at-ended p m e A a h = (
  omega (arith, row_at-length p m e A a),
  λ z. eqb-false (value_at p e A m a) 0 (not-true (eqb (value_at p e A m a) 0) h)
      (sym (row_at-get_or p m e A a m (omega arith)) ∙ ap (λ (i : ℕ). get_or (row_at p m e A a) i 0) (sym (row_at-declared p m e A a)) ∙ z),
)

pub usable-ended : (P : Pair) (a : ℕ) → usable P a ≡ true → Ended (row_a P a) × Ended (row_b P a)
unfolding usable row_a row_b
usable-ended P a u =
    let b = and_true (not (eqb (value_at P.p P.e P.A P.m a) 0)) (not (eqb (value_at P.p P.f P.B P.n a) 0)) u in
    (row_at-ended P.p P.m P.e P.A a b.0, row_at-ended P.p P.n P.f P.B a b.1)

pub kept-resultant : (P : Pair) (a : ℕ) → 2 ≤ P.p → Prime P.p → usable P a ≡ true
    → kept P a ≡ val P.p (row_resultant P.p (row_a P a) (row_b P a))
unfolding kept row_a row_b
kept-resultant P a two prime u =
    ap (val P.p) (sym (row_resultant-right P.p two prime (row_a P a) (row_b P a)
    (usable-ended P a u).0 (row_at-below P.p P.m P.e P.A a (omega arith))
    (usable-ended P a u).1 (row_at-below P.p P.n P.f P.B a (omega arith))))

-- A sound job with all its points: the interpolated polynomial is the determinant, so every surplus point agrees.
--
--   interpolant-determinant   coefficient by coefficient
--   agrees_always             a surplus point's value is the interpolated polynomial's
--   surplus-agrees            so a surplus point is answered 1
use Rattle.std.specs.Prelude.{ℕ, ◌<◌, true, ◌≡◌}
use Rattle.std.proofs.Common.{arith, ◌∙◌, subst}
use Rattle.std.proofs.Math.Path.{refl, ap}
use Rattle.std.proofs.Math.ListN.{get_or}
use borrow.Author.Tests.{eq-eqb, le-ltb}
use Rattle.residue.specs.Residue.{residues, res, val}
use Rattle.residue.specs.ResidueLaws.{val-res_small, val-lt}
use Rattle.residue.specs.Inverse.{inv}
use Rattle.polynomial.specs.Value.{value}
use Rattle.polynomial.specs.ValueLaws.{value_ext}
use Rattle.polynomial.specs.InterpolationLaws.{newton-value}
use Rattle.scope.specs.Pair.{Pair, determinant}
use Rattle.scope.specs.Point.{kept, needed, row_a, row_b}
use Rattle.scope.specs.Number.{point_number, ◌then◌}
use Rattle.scope.specs.Recovery.{Different, different_invertible, recovered, determinant-value}
use Rattle.euclid.specs.Row.{row_determinant}
use Rattle.job.specs.declared.Job.{Job}
use Rattle.job.specs.Job.{pair_of, kept_points}
use Rattle.job.specs.Calls.{interpolant, agrees, offer_number}
use Rattle.job.specs.Standing.{Standing}
use Rattle.job.specs.OpenLaws.{pair_within}
use Rattle.job.specs.StandingLaws.{standing_different}

pub kept-below : (P : Pair) (a : ℕ) → 0 < P.p → kept P a < P.p
unfolding kept
kept-below P a pos = val-lt P.p pos (row_determinant P.p (row_a P a) (row_b P a))

module _ (j : Job) (s : Standing j) (full : j.count ≡ needed (pair_of j)) where
  different : Different j.p (needed (pair_of j)) (λ i. get_or j.points i 0)
  different = subst (λ (n : ℕ). Different j.p n (λ i. get_or j.points i 0)) full (standing_different j s)

  through : (i : ℕ) → i < needed (pair_of j)
      → value (residues j.p) (needed (pair_of j)) (interpolant j) (res j.p (get_or j.points i 0)) ≡ res j.p (kept (pair_of j) (get_or j.points i 0))
  unfolding interpolant
  through i l =
      newton-value (residues j.p) (inv j.p) (λ i. res j.p (get_or j.points i 0)) (λ i. res j.p (get_or j.values i 0)) (needed (pair_of j))
      (different_invertible j.p s.modulus.least s.modulus.prime (needed (pair_of j)) (λ i. get_or j.points i 0) different (λ i. res j.p (get_or j.values i 0))) i l
      ∙ ap (res j.p) (s.value-kept i (omega (arith, full)))

  pub interpolant-determinant : (k : ℕ) → k < needed (pair_of j) → interpolant j k ≡ unfold pair_of in determinant (pair_of j) k
  unfolding pair_of
  interpolant-determinant =
      recovered (pair_of j) s.modulus.least s.modulus.prime (pair_within j) (λ i. get_or j.points i 0) different (interpolant j) through

  pub agrees_always : (a : ℕ) → agrees j a ≡ true
  unfolding agrees pair_of
  agrees_always a =
      eq-eqb (val j.p (value (residues j.p) (needed (pair_of j)) (interpolant j) (res j.p a))) (kept (pair_of j) a)
      (ap (val j.p) (value_ext (residues j.p) (needed (pair_of j)) (interpolant j) (determinant (pair_of j)) (res j.p a) interpolant-determinant
      ∙ determinant-value (pair_of j) (pair_within j) a)
      ∙ val-res_small (kept-below (pair_of j) a (omega (arith, s.modulus.least))))

  pub surplus-agrees : (a : ℕ) → point_number (pair_of j) (kept_points j) a ≡ 0 → offer_number j a ≡ 1
  unfolding offer_number ◌then◌
  surplus-agrees a h = rw (h, le-ltb j.count (needed (pair_of j)) (omega (arith, full)), agrees_always a) refl

-- The polynomial through the kept pairs of a record, worked out from the fronts of its two arrays.
--
--   value-below        the kept values are below p
--   front_below        so are the entries of their front
--   front_different    the entries of the front of the points are different points
--   interpolated       what interpolation leaves is the interpolant
--   table-agrees       comparing its value with the kept one says whether the point agrees
use Rattle.std.proofs.Common.{ℕ, ◌<◌, ◌≤◌, List, ◌≡◌, arith, sym, ap, ap₂, ◌∙◌, eqb, length, get_or, take, get_or-take}
use Rattle.std.proofs.lemmas.Grind.{common_steps}
use mathlib.Core.Path.{fun_ext}
use Rattle.residue.specs.Residue.{residues, res, val}
use Rattle.residue.specs.ResidueLaws.{res-val}
use Rattle.residue.specs.Inverse.{inv}
use Rattle.polynomial.specs.Value.{value}
use Rattle.polynomial.specs.ValueLaws.{value_ext}
use Rattle.polynomial.specs.Interpolation.{newton}
use Rattle.scope.specs.Point.{tabulate, kept, needed}
use Rattle.scope.specs.Degree.{tabulate-length, tabulate-get_or}
use Rattle.scope.specs.Recovery.{Different}
use Rattle.points.specs.Step.{value_of}
use Rattle.job.specs.declared.Job.{Job}
use Rattle.job.specs.Job.{pair_of, kept_points}
use Rattle.job.specs.Calls.{interpolant, agrees}
use Rattle.job.specs.Standing.{Standing}
use Rattle.job.specs.Complete.{kept-below}

-- a list that is 0 from n on reads as its front does
front_reads : (n : ℕ) (l : List ℕ) → ((i : ℕ) → n ≤ i → get_or l i 0 ≡ 0) → (i : ℕ) → get_or (take n l) i 0 ≡ get_or l i 0
front_reads n l rest i = grind (arith, common_steps, rest i)

module _ (j : Job) (s : Standing j) where
  pub value-below : (i : ℕ) → i < j.count → get_or j.values i 0 < j.p
  unfolding pair_of
  value-below i l =
      let below : kept (pair_of j) (get_or j.points i 0) < j.p = kept-below (pair_of j) (get_or j.points i 0) (omega (arith, s.modulus.least)) in
      omega (arith, s.value-kept i l)

  pub front_below : {p n : ℕ} → p ≡ j.p → n ≡ j.count → (i : ℕ) → i < n → get_or (take j.count j.values) i 0 < p
  front_below ep en i l = grind (arith, common_steps, value-below i)

  pub front_different : {p n : ℕ} {points : List ℕ} → p ≡ j.p → n ≡ j.count → points ≡ kept_points j → Different p n (λ i. get_or points i 0)
  unfolding kept_points
  front_different {p} {n} {points} ep en e = record {
    below = λ i l. omega (arith, at i (omega arith), s.point-below i (omega arith));
    apart = λ i k below last q. s.point_apart i k below (omega arith) (sym (at i (omega arith)) ∙ q ∙ at k (omega arith));
  }
    where
      at : (i : ℕ) → i < j.count → get_or points i 0 ≡ get_or j.points i 0
      at i l = ap (λ (r : List ℕ). get_or r i 0) e ∙ get_or-take j.count j.points i 0 l

  pub interpolated : j.count ≡ needed (pair_of j) → {p n : ℕ} {points out : List ℕ} → p ≡ j.p → n ≡ j.count → points ≡ kept_points j
      → out ≡ tabulate n (λ k. val p (newton (residues p) (inv p) (λ i. res p (get_or points i 0)) (λ i. res p (get_or (take j.count j.values) i 0)) n k))
      → out ≡ tabulate j.count (λ k. val j.p (interpolant j k))
  unfolding interpolant kept_points
  interpolated full {p} {n} {points} ep en e out-is =
      out-is
      ∙ (λ t. tabulate (en t) (λ k. val (ep t) (newton (residues (ep t)) (inv (ep t)) (λ i. res (ep t) (at t i)) (λ i. res (ep t) (values t i)) (all t) k)))
    where
      at : ◌≡◌ {A = ℕ → ℕ} (λ i. get_or points i 0) (λ i. get_or j.points i 0)
      at = fun_ext (λ i. ap (λ (r : List ℕ). get_or r i 0) e ∙ front_reads j.count j.points s.point-rest i)

      values : ◌≡◌ {A = ℕ → ℕ} (λ i. get_or (take j.count j.values) i 0) (λ i. get_or j.values i 0)
      values = fun_ext (λ i. front_reads j.count j.values s.value-rest i)

      all : n ≡ needed (pair_of j)
      all = en ∙ full

module _ (j : Job) (full : j.count ≡ needed (pair_of j)) where
  pub table-agrees : (a : ℕ) {t : List ℕ} {r v : ℕ} → t ≡ tabulate j.count (λ k. val j.p (interpolant j k)) → r ≡ value_of j.p (length t) t a → v ≡ kept (pair_of j) a
      → eqb r v ≡ agrees j a
  unfolding agrees value_of
  table-agrees a {t} et er ev =
      ap₂ eqb
      (er
      ∙ ap (λ (n : ℕ). val j.p (value (residues j.p) n (λ i. res j.p (get_or t i 0)) (res j.p a))) (ap length et ∙ tabulate-length j.count (λ k. val j.p (interpolant j k)) ∙ full)
      ∙ ap (val j.p) (value_ext (residues j.p) (needed (pair_of j)) (λ i. res j.p (get_or t i 0)) (interpolant j) (res j.p a) same))
      ev
    where
      same : (i : ℕ) → i < needed (pair_of j) → res j.p (get_or t i 0) ≡ interpolant j i
      same i l =
          ap (λ (u : List ℕ). res j.p (get_or u i 0)) et
          ∙ ap (res j.p) (tabulate-get_or j.count (λ k. val j.p (interpolant j k)) i (omega arith))
          ∙ res-val j.p (interpolant j i)

-- Sylvester's determinant of two rows at their declared degrees m and n, whatever their leading entries are.
-- A row whose leading entries are 0 falls: its true degree is below the declared one.
--
--   degree_most             the true degree is at most the declared one
--   determinant_swap        swapping a and b multiplies by (-1)^(mn)
--   determinant_fall-right  b falls to degree k: a_m^(n-k) times the determinant of a and the trimmed b
--   determinant_fall_left   a falls to degree k: (-1)^(n(m-k)) b_n^(m-k) times the determinant of the trimmed a and b
--   determinant_constant    m = 0: a_0^n, whatever b is
--   determinant_vanish      b is all zero and m > 0: 0
--   determinant_both        both leading entries are 0 and m + n > 0: 0
--   determinant-one         m = n = 0: 1
use Rattle.std.specs.Prelude.{ℕ, ◌+◌, ◌-◌, ◌*◌, ◌<◌, ◌≤◌, ◌⊎◌, ◌≡◌, refl, get_or}
use Rattle.std.proofs.Common.{arith, inl, inr, ◌∙◌}
use mathlib.Core.List.{List, []}
use Rattle.std.proofs.Math.Path.{sym, ap, ap₂}
use Rattle.ring.specs.Ring.{Ring, pow, sign}
use Rattle.ring.specs.RingLaws.{⊗-zero}
use Rattle.residue.specs.Residue.{residues, res}
use Rattle.residue.specs.ResidueLaws.{res-zero}
use Rattle.sylvester.specs.Sylvester.{resultant}
use Rattle.sylvester.specs.Laws.{resultant_ext, resultant_const_left, resultant_const_both, resultant_swap, resultant-drop_both, resultant_fall-right, resultant_fall_left, resultant-zero_left}
use Rattle.euclid.specs.Row.{coef, trim, declared, degree, row_determinant}
use Rattle.euclid.specs.RowLaws.{Ended, coef_out, trim-coef, trim-length, trim-ended, declared-length, declared_least}

pub degree_most : (r : List ℕ) → degree r ≤ declared r
unfolding degree declared
degree_most r = by_end (trim-ended r)
  where
    by_end : (trim r ≡ []) ⊎ Ended (trim r) → declared (trim r) ≤ declared r
    by_end (inl e) = rw e (omega arith)
    by_end (inr h) = omega (arith, declared-length (trim r) h.0, trim-length r, declared_least r)

-- the declared degree, by how far the row falls
fallen-from : (r : List ℕ) → declared r ≡ degree r + (declared r - degree r)
fallen-from r = omega (arith, degree_most r)

-- past the true degree the coefficients are 𝟘
above-degree : (p : ℕ) (r : List ℕ) (j : ℕ) → degree r < j → coef p r j ≡ Ring.𝟘 (residues p)
unfolding degree
above-degree p r j l = sym (trim-coef p r j) ∙ coef_out p (trim r) j (omega (arith, declared_least (trim r)))

module _ (p : ℕ) (a b : List ℕ) where
  open residues p use {C, ◌⊗◌, 𝟘, 𝟙}

  pub determinant_swap : row_determinant p a b ≡ sign (residues p) (declared a * declared b) ⊗ row_determinant p b a
  unfolding row_determinant
  determinant_swap = resultant_swap (residues p) (declared a) (declared b) (coef p a) (coef p b)

  pub determinant_fall-right : row_determinant p a b
      ≡ pow (residues p) (coef p a (declared a)) (declared b - degree b) ⊗ row_determinant p a (trim b)
  unfolding row_determinant degree
  determinant_fall-right =
      ap (λ (n : ℕ). resultant (residues p) (declared a) n (coef p a) (coef p b)) (fallen-from b)
      ∙ resultant_fall-right (residues p) (degree b) (declared b - degree b) (declared a) (coef p a) (coef p b) (λ j l _. above-degree p b j l)
      ∙ ap (λ (x : C). pow (residues p) (coef p a (declared a)) (declared b - degree b) ⊗ x)
      (resultant_ext (residues p) (declared a) (degree b) (coef p a) (coef p a) (coef p b) (coef p (trim b)) (λ j _. refl) (λ j _. sym (trim-coef p b j)))

  pub determinant_fall_left : row_determinant p a b
      ≡ (sign (residues p) (declared b * (declared a - degree a)) ⊗ pow (residues p) (coef p b (declared b)) (declared a - degree a)) ⊗ row_determinant p (trim a) b
  unfolding row_determinant degree
  determinant_fall_left =
      ap (λ (m : ℕ). resultant (residues p) m (declared b) (coef p a) (coef p b)) (fallen-from a)
      ∙ resultant_fall_left (residues p) (degree a) (declared a - degree a) (declared b) (coef p a) (coef p b) (λ j l _. above-degree p a j l)
      ∙ ap (λ (x : C). (sign (residues p) (declared b * (declared a - degree a)) ⊗ pow (residues p) (coef p b (declared b)) (declared a - degree a)) ⊗ x)
      (resultant_ext (residues p) (degree a) (declared b) (coef p a) (coef p (trim a)) (coef p b) (coef p b) (λ j _. sym (trim-coef p a j)) (λ j _. refl))

  pub determinant_constant : declared a ≡ 0 → row_determinant p a b ≡ pow (residues p) (coef p a (declared a)) (declared b)
  unfolding row_determinant
  determinant_constant e =
      ap (λ (m : ℕ). resultant (residues p) m (declared b) (coef p a) (coef p b)) e
      ∙ resultant_const_left (residues p) (declared b) (coef p a) (coef p b)
      ∙ ap (λ (m : ℕ). pow (residues p) (coef p a m) (declared b)) (sym e)

  pub determinant_vanish : trim b ≡ [] → 0 < declared a → row_determinant p a b ≡ 𝟘
  unfolding row_determinant
  determinant_vanish e some =
      resultant_swap (residues p) (declared a) (declared b) (coef p a) (coef p b)
      ∙ ap (λ (x : C). sign (residues p) (declared a * declared b) ⊗ x)
      (resultant-zero_left (residues p) (declared b) (declared a) (coef p b) (coef p a) some (λ j _. gone j))
      ∙ ⊗-zero (residues p) (sign (residues p) (declared a * declared b))
    where
      gone : (j : ℕ) → coef p b j ≡ 𝟘
      gone j = sym (trim-coef p b j) ∙ ap (λ (l : List ℕ). coef p l j) e ∙ coef_out p [] j (omega arith)

  pub determinant_both : 0 < declared a + declared b → get_or a (declared a) 0 ≡ 0 → get_or b (declared b) 0 ≡ 0 → row_determinant p a b ≡ 𝟘
  unfolding row_determinant coef
  determinant_both some ea eb =
      resultant-drop_both (residues p) (declared a) (declared b) (coef p a) (coef p b) some (ap (res p) ea ∙ res-zero p) (ap (res p) eb ∙ res-zero p)

  pub determinant-one : declared a ≡ 0 → declared b ≡ 0 → row_determinant p a b ≡ 𝟙
  unfolding row_determinant
  determinant-one ea eb =
      ap₂ (λ (m n : ℕ). resultant (residues p) m n (coef p a) (coef p b)) ea eb ∙ resultant_const_both (residues p) (coef p a) (coef p b)

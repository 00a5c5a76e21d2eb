-- The determinant from its values: as many different points as are needed give it back, coefficient by coefficient.
--
--   Different p N x           x 0 .. x (N-1) are different numbers below p
--   different_invertible      Newton's rule has the inverses it needs at different points
--   interpolation             any N values at N different points have one polynomial of at most N coefficients
--   interpolation_unique      and only one
--   determinant-value         at every point the determinant's value is the one that is kept there
--   recovered                 a polynomial with the kept values at as many different points as are needed
--                             is the determinant
use Prim.Native.Nat.{ℕ, zero, suc, ◌<◌, ◌≤◌}
use Rattle.std.proofs.Common.{add-one, arith, sym, ap, ◌∙◌}
use Rattle.std.specs.Prelude.{◌≡◌, ◌≢◌}
use Rattle.ring.specs.Ring.{Ring}
use Rattle.ring.specs.RingLaws.{sub-zero-eq}
use Rattle.residue.specs.Prime.{Prime}
use Rattle.residue.specs.Residue.{residues, res, val}
use Rattle.residue.specs.ResidueLaws.{val-res_small, val-𝟘, val-𝟙, res-val}
use Rattle.residue.specs.Inverse.{inv}
use Rattle.residue.specs.InverseLaws.{inv_right, domain}
use Rattle.polynomial.specs.Value.{value}
use Rattle.polynomial.specs.Interpolation.{Invertible, newton, product, prod}
use Rattle.polynomial.specs.InterpolationLaws.{newton-value, newton-bound, product_value, invertible_regular, value_unique}
use Rattle.euclid.specs.Row.{row_determinant}
use Rattle.scope.specs.Pair.{Pair, bound, determinant}
use Rattle.scope.specs.Point.{row_a, row_b, kept, needed}
use Rattle.scope.specs.Degree.{Within, determinant_takes}

pub record Different (p N : ℕ) (x : ℕ → ℕ) : Type 0 where
  pub below : (i : ℕ) → i < N → x i < p
  pub apart : (i j : ℕ) → i < j → j < N → x i ≢ x j

module _ (p : ℕ) (two : 2 ≤ p) (prime : Prime p) where
  open residues p use {C, ◌⊕◌, ◌⊗◌, ⊖◌, 𝟘, 𝟙}

  one-nonzero : 𝟙 ≢ 𝟘
  one-nonzero e = let h : ◌≡◌ {A = ℕ} 1 0 = sym (val-𝟙 p two) ∙ ap (val p) e ∙ val-𝟘 p in omega arith

  prod-nonzero : (N : ℕ) (f : ℕ → C) → ((i : ℕ) → i < N → f i ≢ 𝟘) → prod (residues p) N f ≢ 𝟘
  unfolding prod
  prod-nonzero zero f h e = one-nonzero e
  prod-nonzero (suc N) f h e =
      prod-nonzero N (λ i. f (suc i)) (λ i l. h (suc i) (omega arith))
      (domain p two prime (f zero) (prod (residues p) N (λ i. f (suc i))) e (h zero (omega arith)))

  -- different numbers below p have different residues
  res_apart : (a b : ℕ) → a < p → b < p → a ≢ b → res p b ⊕ (⊖ (res p a)) ≢ 𝟘
  res_apart a b ha hb d e =
      d (sym (val-res_small ha) ∙ ap (val p) (sym (sub-zero-eq (residues p) (res p b) (res p a) e)) ∙ val-res_small hb)

  pub different_invertible : (N : ℕ) (x : ℕ → ℕ) → Different p N x → (v : ℕ → C)
      → Invertible (residues p) (inv p) (λ i. res p (x i)) v N
  different_invertible N x h v n l =
      inv_right p two prime (value (residues p) (suc n) (product (residues p) n (λ i. res p (x i))) (res p (x n)))
      (λ e. prod-nonzero n (λ i. res p (x n) ⊕ (⊖ (res p (x i))))
      (λ i k. res_apart (x i) (x n) (h.below i (omega arith)) (h.below n l) (h.apart i n k l))
      (sym (product_value (residues p) n (λ i. res p (x i)) (res p (x n))) ∙ e))

  pub interpolation : (N : ℕ) (x : ℕ → ℕ) → Different p N x → (v : ℕ → C)
      → (g : ℕ → C) × ((i : ℕ) → i < N → value (residues p) N g (res p (x i)) ≡ v i) × ((k : ℕ) → N ≤ k → g k ≡ 𝟘)
  interpolation N x h v = (
    newton (residues p) (inv p) (λ i. res p (x i)) v N,
    newton-value (residues p) (inv p) (λ i. res p (x i)) v N (different_invertible N x h v),
    newton-bound (residues p) (inv p) (λ i. res p (x i)) v N,
  )

  pub interpolation_unique : (N : ℕ) (x : ℕ → ℕ) → Different p N x → (f g : ℕ → C)
      → ((i : ℕ) → i < N → value (residues p) N f (res p (x i)) ≡ value (residues p) N g (res p (x i)))
      → (k : ℕ) → k < N → f k ≡ g k
  interpolation_unique N x h =
      value_unique (residues p) N (λ i. res p (x i))
      (invertible_regular (residues p) (inv p) (λ i. res p (x i)) (λ i. 𝟘) N (different_invertible N x h (λ i. 𝟘)))

pub determinant-value : (P : Pair) → Within P → (a : ℕ)
    → value (residues P.p) (needed P) (determinant P) (res P.p a) ≡ res P.p (kept P a)
unfolding needed kept
determinant-value P w a =
    ap (λ (z : ℕ). value (residues P.p) z (determinant P) (res P.p a)) (add-one (bound P))
    ∙ (determinant_takes P w a).value
    ∙ sym (res-val P.p (row_determinant P.p (row_a P a) (row_b P a)))

pub recovered : (P : Pair) → 2 ≤ P.p → Prime P.p → Within P → (x : ℕ → ℕ) → Different P.p (needed P) x
    → (g : ℕ → Ring.C (residues P.p))
    → ((i : ℕ) → i < needed P → value (residues P.p) (needed P) g (res P.p (x i)) ≡ res P.p (kept P (x i)))
    → (k : ℕ) → k < needed P → g k ≡ determinant P k
recovered P two prime w x h g e =
    interpolation_unique P.p two prime (needed P) x h g (determinant P)
    (λ i l. e i l ∙ sym (determinant-value P w (x i)))

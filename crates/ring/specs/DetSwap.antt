-- Determinants: equal rows, rows that change places, a multiple of one row added to another.
--
--   det_equal           two equal rows give zero
--   det_swap            two rows that change places change the sign
--   det-add_multiple    a multiple of another row may be added to a row
use Prim.Native.Nat.{ℕ, zero, suc, ◌<◌}
use Rattle.std.proofs.Common.{eq-or-lt_of_le, le_of_suc-le-suc, arith, subst, ◌∙◌, inl, inr}
use Rattle.std.proofs.Math.Decide.{dec_lt}
use Rattle.std.specs.Prelude.{◌≡◌, refl, ◌≢◌}
use Rattle.std.proofs.Math.Path.{sym, ap, ap₂, fun_ext}
use Rattle.ring.specs.Ring.{Ring}
use Rattle.ring.specs.RingLaws.{zero-⊕, ⊗-zero, neg_unique, neg-zero}
use Rattle.ring.specs.Sum.{alt}
use Rattle.ring.specs.Alt.{alt-zero}
use Rattle.ring.specs.Matrix.{put}
use Rattle.ring.specs.MatrixLaws.{put_same, put_other, put_is, put_self, put_comm}
use Rattle.ring.specs.Det.{skip, minor, det}
use Rattle.ring.specs.DetLaws.{skip-lt, det_ext, det_by_column, det-linear, det-add, det-put}

module _ (R : Ring) where
  open R use {C, ◌⊕◌, ◌⊗◌, ⊖◌, 𝟘, ⊕-zero, ⊕-neg}

  -- the first two terms of the expansion by the first column cancel
  equal_first : (m : ℕ) (A : ℕ → ℕ → C) → ((k : ℕ) → k < suc (suc m) → A zero k ≡ A (suc zero) k)
      → ((i : ℕ) → i < m → det R (suc m) (λ a b. A (skip (suc (suc i)) a) (suc b)) ≡ 𝟘) → det R (suc (suc m)) A ≡ 𝟘
  unfolding alt skip
  equal_first m A h z =
      det_by_column R (suc m) A
      ∙ ap (λ (x : C). F zero ⊕ (⊖ (F (suc zero) ⊕ (⊖ x)))) (alt-zero R m (λ i. F (suc (suc i))) (λ i l. ap (λ (x : C). A (suc (suc i)) zero ⊗ x) (z i l) ∙ ⊗-zero R (A (suc (suc i)) zero)))
      ∙ ap (λ (x : C). x ⊕ (⊖ (F (suc zero) ⊕ (⊖ 𝟘)))) same
      ∙ ap (λ (x : C). F (suc zero) ⊕ (⊖ (F (suc zero) ⊕ x))) (neg-zero R)
      ∙ ap (λ (x : C). F (suc zero) ⊕ (⊖ x)) (⊕-zero (F (suc zero)))
      ∙ ⊕-neg (F (suc zero))
    where
      F : ℕ → C
      F i = A i zero ⊗ det R (suc m) (λ a b. A (skip i a) (suc b))

      rows : (a b : ℕ) → b < suc m → A (suc a) (suc b) ≡ A (skip (suc zero) a) (suc b)
      rows zero b l = sym (h (suc b) (omega arith))
      rows (suc a) b l = refl

      same : F zero ≡ F (suc zero)
      same = ap₂ (λ (x y : C). x ⊗ y) (h zero (omega arith)) (det_ext R (suc m) _ _ (λ a b la lb. rows a b lb))

  equal-top : (m : ℕ) (A : ℕ → ℕ → C) → ((k : ℕ) → k < suc (suc m) → A zero k ≡ A (suc zero) k) → det R (suc (suc m)) A ≡ 𝟘
  unfolding skip
  equal-top zero A h = equal_first zero A h (λ i l. absurd (omega arith))
  equal-top (suc m) A h =
      equal_first (suc m) A h (λ i l. equal-top m (λ a b. A (skip (suc (suc i)) a) (suc b)) (λ k lk. h (suc k) (omega arith)))

  -- two equal neighbouring rows
  equal_next : (n i : ℕ) (A : ℕ → ℕ → C) → suc i < n → ((k : ℕ) → k < n → A i k ≡ A (suc i) k) → det R n A ≡ 𝟘
  unfolding det
  equal_next zero i A l h = absurd (omega arith)
  equal_next (suc zero) i A l h = absurd (omega arith)
  equal_next (suc (suc m)) zero A l h = equal-top m A h
  equal_next (suc (suc m)) (suc i) A l h =
      alt-zero R (suc (suc m)) _ (λ j lj.
      ap (λ (x : C). A zero j ⊗ x) (equal_next (suc m) i (minor R A j) (omega arith) (λ k lk. h (skip j k) (skip-lt j k (suc m) lk)))
      ∙ ⊗-zero R (A zero j))

  -- rows i and j replaced by one and the same row give determinant zero
  Alternates : ℕ → ℕ → ℕ → Type 0
  Alternates n i j = (x : ℕ → C) (A : ℕ → ℕ → C) → det R n (put i x (put j x A)) ≡ 𝟘

  -- then two rows that change places change the sign
  alternates_swap : (n i j : ℕ) → i ≢ j → i < n → j < n → Alternates n i j
      → (x y : ℕ → C) (A : ℕ → ℕ → C) → det R n (put i x (put j y A)) ≡ ⊖ det R n (put i y (put j x A))
  unfolding Alternates
  alternates_swap n i j ne li lj z x y A =
      neg_unique R (F x y) (F y x)
      (ap₂ (λ (u v : C). u ⊕ v) (sym (zero-⊕ R (F x y)) ∙ ap (λ (u : C). u ⊕ F x y) (sym (z x A))) (sym (⊕-zero (F y x)) ∙ ap (λ (u : C). F y x ⊕ u) (sym (z y A)))
      ∙ ap₂ (λ (u v : C). u ⊕ v) (sym (right x)) (sym (right y))
      ∙ sym (det-add R n i x y (put j xy A) li)
      ∙ z xy A)
    where
      xy : ℕ → C
      xy k = x k ⊕ y k

      F : (ℕ → C) → (ℕ → C) → C
      F u v = det R n (put i u (put j v A))

      back : (u v : ℕ → C) → F u v ≡ det R n (put j v (put i u A))
      back u v = ap (λ (M : ℕ → ℕ → C). det R n M) (fun_ext (put_comm i j u v A ne))

      right : (u : ℕ → C) → F u xy ≡ F u x ⊕ F u y
      right u = back u xy ∙ det-add R n j x y (put i u A) lj ∙ ap₂ (λ (u v : C). u ⊕ v) (sym (back u x)) (sym (back u y))

  alternates-next : (n i : ℕ) → suc i < n → Alternates n i (suc i)
  unfolding Alternates
  alternates-next n i l x A =
      equal_next n i M l (λ k lk. ap (λ (r : ℕ → C). r k) (put_same i x (put (suc i) x A) ∙ sym (put_other i (suc i) x (put (suc i) x A) (omega arith) ∙ put_same (suc i) x A)))
    where
      M : ℕ → ℕ → C
      M = put i x (put (suc i) x A)

  -- the lower of the two rows goes one down: it changes places with the row below it
  alternates_down : (n i j : ℕ) → i < j → suc j < n → Alternates n i j → Alternates n i (suc j)
  unfolding Alternates
  alternates_down n i j l lj z x A =
      ap (λ (M : ℕ → ℕ → C). det R n M)
      (fun_ext (put_comm i (suc j) x x A (omega arith))
      ∙ sym (fun_ext (put_self j (put (suc j) x M)))
      ∙ ap (λ (r : ℕ → C). put j r (put (suc j) x M)) (put_other (suc j) j x M (omega arith)))
      ∙ alternates_swap n j (suc j) (omega arith) (omega arith) lj (alternates-next n j lj) (M j) x M
      ∙ ap (λ (N : ℕ → ℕ → C). ⊖ det R n N)
      (ap (λ (N : ℕ → ℕ → C). put j x N) (fun_ext (put_comm (suc j) i (M j) x A (omega arith)))
      ∙ fun_ext (put_comm j i x x (put (suc j) (M j) A) (omega arith)))
      ∙ ap (λ (u : C). ⊖ u) (z x (put (suc j) (M j) A))
      ∙ neg-zero R
    where
      M : ℕ → ℕ → C
      M = put i x A

  alternates : (n i j : ℕ) → i < j → j < n → Alternates n i j
  alternates n i zero l lj = absurd (omega arith)
  alternates n i (suc j) l lj =
      elim (eq-or-lt_of_le (le_of_suc-le-suc l)) [
        | inl e ↦ subst (λ (j : ℕ). Alternates n i (suc j)) e (alternates-next n i (omega arith))
        | inr k ↦ alternates_down n i j k lj (alternates n i j k (omega arith))
      ]

  pub det_equal : (n i j : ℕ) (A : ℕ → ℕ → C) → i < j → j < n → ((k : ℕ) → k < n → A i k ≡ A j k) → det R n A ≡ 𝟘
  unfolding Alternates
  det_equal n i j A l lj h =
      det-put R n i (A i) (put j (A i) A) A (λ k lk. refl)
      (λ a k la lk ne. put_is j a k (A i) A (A a k) (λ e. ap (λ (a : ℕ). A a k) e ∙ sym (h k lk)) (λ ne. refl))
      ∙ alternates n i j l lj (A i) A

  pub det_swap : (n i j : ℕ) (A : ℕ → ℕ → C) → i < j → j < n → det R n (put i (A j) (put j (A i) A)) ≡ ⊖ det R n A
  det_swap n i j A l lj =
      alternates_swap n i j (omega arith) (omega arith) lj (alternates n i j l lj) (A j) (A i) A
      ∙ ap (λ (M : ℕ → ℕ → C). ⊖ det R n M) (ap (λ (M : ℕ → ℕ → C). put i (A i) M) (fun_ext (put_self j A)) ∙ fun_ext (put_self i A))

  -- the same as det_equal, for rows in either order
  equal_rows : (n i j : ℕ) (A : ℕ → ℕ → C) → i ≢ j → i < n → j < n → A i ≡ A j → det R n A ≡ 𝟘
  equal_rows n i j A ne li lj h =
      elim (dec_lt i j) [
        | yes l ↦ det_equal n i j A l lj (λ k lk. ap (λ (r : ℕ → C). r k) h)
        | no nl ↦ det_equal n j i A (omega arith) li (λ k lk. ap (λ (r : ℕ → C). r k) (sym h))
      ]

  pub det-add_multiple : (n i j : ℕ) (c : C) (A : ℕ → ℕ → C) → i ≢ j → i < n → j < n
      → det R n (put i (λ k. A i k ⊕ c ⊗ A j k) A) ≡ det R n A
  det-add_multiple n i j c A ne li lj =
      det-linear R n i c (A i) (A j) A li
      ∙ ap₂ (λ (x y : C). x ⊕ c ⊗ y) (ap (λ (M : ℕ → ℕ → C). det R n M) (fun_ext (put_self i A)))
      (equal_rows n i j (put i (A j) A) ne li lj (put_same i (A j) A ∙ sym (put_other i j (A j) A (omega arith))))
      ∙ ap (λ (x : C). det R n A ⊕ x) (⊗-zero R c)
      ∙ ⊕-zero (det R n A)

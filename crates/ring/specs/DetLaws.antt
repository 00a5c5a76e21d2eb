-- Determinants: expansion by the first column, and the laws that concern one row.
--
--   skip-lt           a column of a minor is a column of the matrix
--   det_ext           the determinant looks at the entries inside the size only
--   det_transpose     rows and columns may change places
--   det_by_column     expansion by the first column
--   det_column        the same where one entry of the column may differ from zero
--   det-linear        linear in row i: a row plus a multiple of another row
--   det-add           additive in row i
--   det-scale         a factor of row i
--   det-put           a matrix that has r as row i and agrees with A elsewhere, entry by entry
--   det-zero_row      a row of zeros
--   det_triangular    zeros below the diagonal and one value along it
use Prim.Native.Nat.{ℕ, zero, suc, ◌≤◌, ◌<◌}
use Rattle.std.proofs.Common.{arith, ◌∙◌}
use Rattle.std.specs.Prelude.{◌≡◌, ◌≢◌}
use Rattle.std.proofs.Math.Path.{refl, sym, ap, ap₂, fun_ext}
use Rattle.ring.specs.Ring.{Ring, sign, pow}
use Rattle.ring.specs.RingLaws.{zero-⊕, one-⊗, zero-⊗, dist-⊗, ⊕_cancel, ⊗_left_comm}
use Rattle.ring.specs.Sum.{alt}
use Rattle.ring.specs.Alt.{alt_ext, alt-linear, alt-scale, alt_swap, alt_single}
use Rattle.ring.specs.Matrix.{put}
use Rattle.ring.specs.MatrixLaws.{put_is, put_columns}
use Rattle.ring.specs.Det.{skip, minor, det}

pub skip-lt : (j k n : ℕ) → k < n → skip j k < suc n
unfolding skip
skip-lt zero k n h = omega arith
skip-lt (suc j) zero n h = omega arith
skip-lt (suc j) (suc k) zero h = absurd (omega arith)
skip-lt (suc j) (suc k) (suc n) h = let l : skip j k < suc n = skip-lt j k n (omega arith) in omega arith

module _ (R : Ring) where
  open R use {C, ◌⊕◌, ◌⊗◌, ⊖◌, 𝟘, 𝟙, ⊕-zero, ⊗_assoc, ⊗_dist}

  pub det_ext : (n : ℕ) (A B : ℕ → ℕ → C) → ((i k : ℕ) → i < n → k < n → A i k ≡ B i k) → det R n A ≡ det R n B
  unfolding det
  det_ext zero A B h = refl
  det_ext (suc n) A B h =
      alt_ext R (suc n) (λ j. A zero j ⊗ det R n (minor R A j)) (λ j. B zero j ⊗ det R n (minor R B j))
      (λ j l. ap (λ (t : C). t ⊗ det R n (minor R A j)) (h zero j (omega arith) l)
      ∙ ap (λ (t : C). B zero j ⊗ t) (det_ext n (minor R A j) (minor R B j) (λ i k li lk. h (suc i) (skip j k) (omega arith) (skip-lt j k n lk))))

  -- the determinant does not change when rows and columns change places, for size n
  Transposes : ℕ → Type 0
  Transposes n = (A : ℕ → ℕ → C) → det R n (λ i k. A k i) ≡ det R n A

  -- the part of a determinant whose terms pass by the corner: one entry of the first row, one of the first column, and
  -- a minor of what is left
  cross : ℕ → (ℕ → ℕ → C) → C
  cross m A =
      alt R (suc m) (λ j. alt R (suc m) (λ i. A zero (suc j) ⊗ (A (suc i) zero ⊗ det R m (λ a b. A (suc (skip i a)) (suc (skip j b))))))

  cross_swap : (m : ℕ) (A : ℕ → ℕ → C) → Transposes m → cross m (λ i k. A k i) ≡ cross m A
  unfolding cross Transposes
  cross_swap m A t =
      alt_swap R (suc m) (suc m) (λ j i. A (suc j) zero ⊗ (A zero (suc i) ⊗ det R m (λ a b. A (suc (skip j b)) (suc (skip i a)))))
      ∙ alt_ext R (suc m) _ _ (λ j lj. alt_ext R (suc m) _ _ (λ i li.
      ⊗_left_comm R (A (suc i) zero) (A zero (suc j)) (det R m (λ a b. A (suc (skip i b)) (suc (skip j a))))
      ∙ ap (λ (x : C). A zero (suc j) ⊗ (A (suc i) zero ⊗ x)) (t (λ a b. A (suc (skip i a)) (suc (skip j b))))))

  cross_row : (m : ℕ) (A : ℕ → ℕ → C) → Transposes m → Transposes (suc m)
      → alt R (suc m) (λ j. A zero (suc j) ⊗ det R (suc m) (minor R A (suc j))) ≡ cross m A
  unfolding det skip cross Transposes
  cross_row m A t u =
      alt_ext R (suc m) _ _ (λ j lj.
      ap (λ (x : C). A zero (suc j) ⊗ x) (sym (u (minor R A (suc j))))
      ∙ sym (alt-scale R (suc m) (A zero (suc j)) (λ i. A (suc i) zero ⊗ det R m (λ a b. A (suc (skip i b)) (suc (skip j a)))))
      ∙ alt_ext R (suc m) _ _ (λ i li. ap (λ (x : C). A zero (suc j) ⊗ (A (suc i) zero ⊗ x)) (t (λ a b. A (suc (skip i a)) (suc (skip j b))))))

  det_cross : (m : ℕ) (A : ℕ → ℕ → C) → Transposes m → Transposes (suc m)
      → det R (suc (suc m)) A ≡ A zero zero ⊗ det R (suc m) (λ i k. A (suc i) (suc k)) ⊕ (⊖ cross m A)
  unfolding det alt skip
  det_cross m A t u = ap (λ (x : C). A zero zero ⊗ det R (suc m) (λ i k. A (suc i) (suc k)) ⊕ (⊖ x)) (cross_row m A t u)

  pub det_transpose : (n : ℕ) (A : ℕ → ℕ → C) → det R n (λ i k. A k i) ≡ det R n A
  unfolding det alt Transposes
  det_transpose zero A = refl
  det_transpose (suc zero) A = refl
  det_transpose (suc (suc m)) A =
      det_cross m (λ i k. A k i) (det_transpose m) (det_transpose (suc m))
      ∙ ap (λ (x : C). A zero zero ⊗ x ⊕ (⊖ cross m (λ i k. A k i))) (det_transpose (suc m) (λ i k. A (suc i) (suc k)))
      ∙ ap (λ (x : C). A zero zero ⊗ det R (suc m) (λ i k. A (suc i) (suc k)) ⊕ (⊖ x)) (cross_swap m A (det_transpose m))
      ∙ sym (det_cross m A (det_transpose m) (det_transpose (suc m)))

  pub det_by_column : (n : ℕ) (A : ℕ → ℕ → C)
      → det R (suc n) A ≡ alt R (suc n) (λ i. A i zero ⊗ det R n (λ a b. A (skip i a) (suc b)))
  unfolding det
  det_by_column n A =
      sym (det_transpose (suc n) A)
      ∙ alt_ext R (suc n) _ _ (λ i l. ap (λ (x : C). A i zero ⊗ x) (det_transpose n (λ a b. A (skip i a) (suc b))))

  pub det_column : (n r : ℕ) (A : ℕ → ℕ → C) → r ≤ n → ((i : ℕ) → i ≤ n → i ≢ r → A i zero ≡ 𝟘)
      → det R (suc n) A ≡ sign R r ⊗ (A r zero ⊗ det R n (λ i k. A (skip r i) (suc k)))
  det_column n r A l h =
      det_by_column n A
      ∙ alt_single R (suc n) r (λ i. A i zero ⊗ det R n (λ a b. A (skip i a) (suc b))) (omega arith)
      (λ i li ne. ap (λ (x : C). x ⊗ det R n (λ a b. A (skip i a) (suc b))) (h i (omega arith) ne)
      ∙ zero-⊗ R (det R n (λ a b. A (skip i a) (suc b))))

  -- a minor of a matrix with a replaced row, where the row is not the first
  minor-put : (n i j : ℕ) (r : ℕ → C) (A : ℕ → ℕ → C)
      → det R n (minor R (put (suc i) r A) j) ≡ det R n (put i (λ k. r (skip j k)) (minor R A j))
  unfolding put
  minor-put n i j r A = det_ext n _ _ (λ a k la lk. put_columns i r (λ a. A (suc a)) (skip j) a k)

  pub det-linear : (n i : ℕ) (c : C) (r s : ℕ → C) (A : ℕ → ℕ → C) → i < n
      → det R n (put i (λ k. r k ⊕ c ⊗ s k) A) ≡ det R n (put i r A) ⊕ c ⊗ det R n (put i s A)
  unfolding det put
  det-linear zero i c r s A l = absurd (omega arith)
  det-linear (suc n) zero c r s A l =
      alt_ext R (suc n) _ _ (λ j lj.
      dist-⊗ R (r j) (c ⊗ s j) (det R n (minor R A j))
      ∙ ap (λ (x : C). r j ⊗ det R n (minor R A j) ⊕ x) (⊗_assoc c (s j) (det R n (minor R A j))))
      ∙ alt-linear R (suc n) c (λ j. r j ⊗ det R n (minor R A j)) (λ j. s j ⊗ det R n (minor R A j))
  det-linear (suc n) (suc i) c r s A l =
      alt_ext R (suc n) _ _ (λ j lj.
      ap (λ (x : C). A zero j ⊗ x)
      (minor-put n i j (λ k. r k ⊕ c ⊗ s k) A
      ∙ det-linear n i c (λ k. r (skip j k)) (λ k. s (skip j k)) (minor R A j) (omega arith)
      ∙ ap₂ (λ (x y : C). x ⊕ c ⊗ y) (sym (minor-put n i j r A)) (sym (minor-put n i j s A)))
      ∙ ⊗_dist (A zero j) (det R n (minor R (put (suc i) r A) j)) (c ⊗ det R n (minor R (put (suc i) s A) j))
      ∙ ap (λ (x : C). A zero j ⊗ det R n (minor R (put (suc i) r A) j) ⊕ x)
      (⊗_left_comm R (A zero j) c (det R n (minor R (put (suc i) s A) j))))
      ∙ alt-linear R (suc n) c (λ j. A zero j ⊗ det R n (minor R (put (suc i) r A) j)) (λ j. A zero j ⊗ det R n (minor R (put (suc i) s A) j))

  pub det-add : (n i : ℕ) (r s : ℕ → C) (A : ℕ → ℕ → C) → i < n
      → det R n (put i (λ k. r k ⊕ s k) A) ≡ det R n (put i r A) ⊕ det R n (put i s A)
  det-add n i r s A l =
      ap (λ (x : ℕ → C). det R n (put i x A)) (fun_ext (λ k. ap (λ (y : C). r k ⊕ y) (sym (one-⊗ R (s k)))))
      ∙ det-linear n i 𝟙 r s A l
      ∙ ap (λ (x : C). det R n (put i r A) ⊕ x) (one-⊗ R (det R n (put i s A)))

  -- a row of zeros
  put-zero : (n i : ℕ) (A : ℕ → ℕ → C) → i < n → det R n (put i (λ k. 𝟘) A) ≡ 𝟘
  put-zero n i A l =
      ⊕_cancel R d 𝟘 d (sym (det-add n i (λ k. 𝟘) (λ k. 𝟘) A l)
      ∙ ap (λ (x : ℕ → C). det R n (put i x A)) (fun_ext (λ k. ⊕-zero 𝟘))
      ∙ sym (zero-⊕ R d))
    where
      d : C
      d = det R n (put i (λ k. 𝟘) A)

  pub det-scale : (n i : ℕ) (c : C) (r : ℕ → C) (A : ℕ → ℕ → C) → i < n
      → det R n (put i (λ k. c ⊗ r k) A) ≡ c ⊗ det R n (put i r A)
  det-scale n i c r A l =
      ap (λ (x : ℕ → C). det R n (put i x A)) (fun_ext (λ k. sym (zero-⊕ R (c ⊗ r k))))
      ∙ det-linear n i c (λ k. 𝟘) r A l
      ∙ ap (λ (x : C). x ⊕ c ⊗ det R n (put i r A)) (put-zero n i A l)
      ∙ zero-⊕ R (c ⊗ det R n (put i r A))

  pub det-put : (n i : ℕ) (r : ℕ → C) (A B : ℕ → ℕ → C) → ((k : ℕ) → k < n → B i k ≡ r k)
      → ((j k : ℕ) → j < n → k < n → j ≢ i → B j k ≡ A j k) → det R n B ≡ det R n (put i r A)
  det-put n i r A B at off =
      det_ext n B (put i r A) (λ a k la lk. put_is i a k r A (B a k) (λ e. ap (λ (j : ℕ). B j k) e ∙ at k lk) (λ ne. off a k la lk ne))

  pub det-zero_row : (n i : ℕ) (A : ℕ → ℕ → C) → i < n → ((k : ℕ) → k < n → A i k ≡ 𝟘) → det R n A ≡ 𝟘
  det-zero_row n i A l h = det-put n i (λ k. 𝟘) A A h (λ j k lj lk ne. refl) ∙ put-zero n i A l

  pub det_triangular : (n : ℕ) (A : ℕ → ℕ → C) (c : C) → ((i k : ℕ) → i < n → k < i → A i k ≡ 𝟘) → ((i : ℕ) → i < n → A i i ≡ c)
      → det R n A ≡ pow R c n
  unfolding det pow sign skip
  det_triangular zero A c z d = refl
  det_triangular (suc n) A c z d =
      det_column n zero A (omega arith) (λ i l ne. z i zero (omega arith) (omega arith))
      ∙ one-⊗ R (A zero zero ⊗ det R n (λ i k. A (suc i) (suc k)))
      ∙ ap₂ (λ (x y : C). x ⊗ y) (d zero (omega arith))
      (det_triangular n (λ i k. A (suc i) (suc k)) c (λ i k li lk. z (suc i) (suc k) (omega arith) (omega arith)) (λ i l. d (suc i) (omega arith)))

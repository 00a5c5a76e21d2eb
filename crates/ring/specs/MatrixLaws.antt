-- Laws of matrices made from rows.
--
--   put_same        row i of put i r A is r
--   put_other       the other rows of put i r A are those of A
--   put_is          a matrix that has r as row i and agrees with A elsewhere is put i r A, entry by entry
--   put-put         the later of two replacements of one row counts
--   put_self        a row replaced by itself
--   put_comm        replacements of two different rows commute
--   put_columns     choosing columns before or after a replacement
--   stack_low       the first n rows of stack n f g are those of f
--   stack_high      row n + i of stack n f g is row i of g
--   stack_columns   choosing columns before or after stacking
use Prim.Native.Nat.{ℕ, zero, suc, ◌+◌, ◌<◌}
use Rattle.std.proofs.Common.{suc-ne-zero, zero-add, suc-add, arith, ◌∙◌}
use Rattle.std.specs.Prelude.{◌≡◌, ◌≢◌}
use Rattle.std.proofs.Math.Path.{refl, ap}
use Rattle.ring.specs.Matrix.{put, stack}

module _ {C : Type 0} where
  pub put_same : (i : ℕ) (r : ℕ → C) (A : ℕ → ℕ → C) → put i r A i ≡ r
  unfolding put
  put_same zero r A = refl
  put_same (suc i) r A = put_same i r (λ i. A (suc i))

  pub put_other : (i j : ℕ) (r : ℕ → C) (A : ℕ → ℕ → C) → j ≢ i → put i r A j ≡ A j
  unfolding put
  put_other zero zero r A h = absurd (h refl)
  put_other zero (suc j) r A h = refl
  put_other (suc i) zero r A h = refl
  put_other (suc i) (suc j) r A h = put_other i j r (λ i. A (suc i)) (omega arith)

  pub put_is : (i a k : ℕ) (r : ℕ → C) (A : ℕ → ℕ → C) (x : C) → (a ≡ i → x ≡ r k) → (a ≢ i → x ≡ A a k) → x ≡ put i r A a k
  unfolding put
  put_is zero zero k r A x at off = at refl
  put_is zero (suc a) k r A x at off = off (suc-ne-zero a)
  put_is (suc i) zero k r A x at off = off (omega arith)
  put_is (suc i) (suc a) k r A x at off = put_is i a k r (λ i. A (suc i)) x (λ e. at (ap suc e)) (λ ne. off (omega arith))

  pub put-put : (i : ℕ) (r s : ℕ → C) (A : ℕ → ℕ → C) (j : ℕ) → put i r (put i s A) j ≡ put i r A j
  unfolding put
  put-put zero r s A zero = refl
  put-put zero r s A (suc j) = refl
  put-put (suc i) r s A zero = refl
  put-put (suc i) r s A (suc j) = put-put i r s (λ i. A (suc i)) j

  pub put_self : (i : ℕ) (A : ℕ → ℕ → C) (j : ℕ) → put i (A i) A j ≡ A j
  unfolding put
  put_self zero A zero = refl
  put_self zero A (suc j) = refl
  put_self (suc i) A zero = refl
  put_self (suc i) A (suc j) = put_self i (λ i. A (suc i)) j

  pub put_comm : (i j : ℕ) (r s : ℕ → C) (A : ℕ → ℕ → C) → i ≢ j → (a : ℕ) → put i r (put j s A) a ≡ put j s (put i r A) a
  unfolding put
  put_comm zero zero r s A h a = absurd (h refl)
  put_comm zero (suc j) r s A h zero = refl
  put_comm zero (suc j) r s A h (suc a) = refl
  put_comm (suc i) zero r s A h zero = refl
  put_comm (suc i) zero r s A h (suc a) = refl
  put_comm (suc i) (suc j) r s A h zero = refl
  put_comm (suc i) (suc j) r s A h (suc a) = put_comm i j r s (λ i. A (suc i)) (omega arith) a

  pub put_columns : (i : ℕ) (r : ℕ → C) (A : ℕ → ℕ → C) (σ : ℕ → ℕ) (a k : ℕ)
      → put i r A a (σ k) ≡ put i (λ k. r (σ k)) (λ a k. A a (σ k)) a k
  unfolding put
  put_columns zero r A σ zero k = refl
  put_columns zero r A σ (suc a) k = refl
  put_columns (suc i) r A σ zero k = refl
  put_columns (suc i) r A σ (suc a) k = put_columns i r (λ i. A (suc i)) σ a k

  pub stack_columns : (n : ℕ) (f g : ℕ → ℕ → C) (σ : ℕ → ℕ) (a k : ℕ)
      → stack n f g a (σ k) ≡ stack n (λ a k. f a (σ k)) (λ a k. g a (σ k)) a k
  unfolding stack
  stack_columns zero f g σ a k = refl
  stack_columns (suc n) f g σ zero k = refl
  stack_columns (suc n) f g σ (suc a) k = stack_columns n (λ i. f (suc i)) g σ a k

  pub stack_low : (n i : ℕ) (f g : ℕ → ℕ → C) → i < n → stack n f g i ≡ f i
  unfolding stack
  stack_low zero i f g l = absurd (omega arith)
  stack_low (suc n) zero f g l = refl
  stack_low (suc n) (suc i) f g l = stack_low n i (λ i. f (suc i)) g (omega arith)

  pub stack_high : (n i : ℕ) (f g : ℕ → ℕ → C) → stack n f g (n + i) ≡ g i
  unfolding stack
  stack_high zero i f g = ap g (zero-add i)
  stack_high (suc n) i f g = ap (stack (suc n) f g) (suc-add n i) ∙ stack_high n i (λ i. f (suc i)) g

-- Determinants: a row, or a block of rows, moved past others.
--
--   front r           the order of rows in which row r comes first and the others follow as they were
--   det-below         what is known of all minors holds of the matrix
--   det-front         a row moved to the top
--   det-stack_swap    two blocks of rows that change places
use Prim.Native.Nat.{ℕ, zero, suc, ◌+◌, ◌*◌, ◌≤◌, ◌<◌}
use Rattle.std.proofs.Common.{add-zero, add-suc, zero-mul, suc-mul, arith, ◌∙◌}
use Rattle.std.specs.Prelude.{◌≡◌}
use Rattle.std.proofs.Math.Path.{refl, sym, ap, ap₂}
use Rattle.ring.specs.Ring.{Ring, sign}
use Rattle.ring.specs.RingLaws.{one-⊗, ⊗-neg, neg-⊗, neg-neg, ⊗_left_comm, sign-add}
use Rattle.ring.specs.Alt.{alt_ext, alt-scale}
use Rattle.ring.specs.Matrix.{put, stack}
use Rattle.ring.specs.MatrixLaws.{stack_low, stack_high, stack_columns}
use Rattle.ring.specs.Det.{skip, minor, det}
use Rattle.ring.specs.DetLaws.{det_ext}
use Rattle.ring.specs.DetSwap.{det_swap}

unfoldable pub front : ℕ → ℕ → ℕ
front r zero = r
front r (suc i) = skip r i

module _ (R : Ring) where
  open R use {C, ◌⊗◌, ⊖◌, ⊗_assoc, ⊗_comm}

  pub det-below : (n : ℕ) (c : C) (A B : ℕ → ℕ → C) → ((k : ℕ) → k < suc n → A zero k ≡ B zero k)
      → ((j : ℕ) → j < suc n → det R n (minor R A j) ≡ c ⊗ det R n (minor R B j)) → det R (suc n) A ≡ c ⊗ det R (suc n) B
  unfolding det
  det-below n c A B top below =
      alt_ext R (suc n) _ _ (λ j l. ap₂ (λ (x y : C). x ⊗ y) (top j l) (below j l) ∙ ⊗_left_comm R (B zero j) c (det R n (minor R B j)))
      ∙ alt-scale R (suc n) c (λ j. B zero j ⊗ det R n (minor R B j))

  pub det-front : (n r : ℕ) (A : ℕ → ℕ → C) → r ≤ n → det R (suc n) A ≡ sign R r ⊗ det R (suc n) (λ i. A (front r i))
  unfolding sign front skip put
  det-front n zero A l = det_ext R (suc n) A (λ i. A (front zero i)) same ∙ sym (one-⊗ R (det R (suc n) (λ i. A (front zero i))))
    where
      same : (i k : ℕ) → i < suc n → k < suc n → A i k ≡ A (front zero i) k
      same zero k li lk = refl
      same (suc i) k li lk = refl
  det-front zero (suc r) A l = absurd (omega arith)
  det-front (suc n) (suc r) A l =
      det-below (suc n) (sign R r) A B (λ k lk. refl) (λ j lj. det-front n r (minor R A j) (omega arith))
      ∙ ap (λ (x : C). sign R r ⊗ x) (sym (neg-neg R (det R (suc (suc n)) B)) ∙ ap (λ (x : C). ⊖ x) (sym swap))
      ∙ ⊗-neg R (sign R r) D
      ∙ sym (neg-⊗ R (sign R r) D)
    where
      B : ℕ → ℕ → C
      B zero = A zero
      B (suc i) = A (suc (front r i))

      D : C
      D = det R (suc (suc n)) (λ i. A (front (suc r) i))

      same : (i k : ℕ) → i < suc (suc n) → k < suc (suc n) → A (front (suc r) i) k ≡ put zero (B (suc zero)) (put (suc zero) (B zero) B) i k
      same zero k li lk = refl
      same (suc zero) k li lk = refl
      same (suc (suc i)) k li lk = refl

      swap : D ≡ ⊖ det R (suc (suc n)) B
      swap = det_ext R (suc (suc n)) _ _ same ∙ det_swap R (suc (suc n)) zero (suc zero) B (omega arith) (omega arith)

  -- below the first row of g the blocks are as before, with one row of g less
  stack-front : (n : ℕ) (f g : ℕ → ℕ → C) (i : ℕ) → stack n f g (front n (suc i)) ≡ stack n f (λ i. g (suc i)) i
  unfolding stack front skip
  stack-front zero f g i = refl
  stack-front (suc n) f g zero = refl
  stack-front (suc n) f g (suc i) = stack-front n (λ i. f (suc i)) g i

  pub det-stack_swap : (m n : ℕ) (f g : ℕ → ℕ → C) → det R (n + m) (stack n f g) ≡ sign R (m * n) ⊗ det R (n + m) (stack m g f)
  unfolding sign stack front
  det-stack_swap zero n f g =
      rw (zero-mul, add-zero)
      (det_ext R n (stack n f g) f (λ i k li lk. ap (λ (r : ℕ → C). r k) (stack_low n i f g li)) ∙ sym (one-⊗ R (det R n f)))
  det-stack_swap (suc m) n f g =
      rw (suc-mul, add-suc)
      (det-front (n + m) n (stack n f g) (omega arith)
      ∙ ap (λ (x : C). sign R n ⊗ x)
      (det-below (n + m) (sign R (m * n)) (λ i. stack n f g (front n i)) (stack (suc m) g f) top
      (λ j lj. moved j ∙ det-stack_swap m n (λ a k. f a (skip j k)) (λ a k. g (suc a) (skip j k)) ∙ back j))
      ∙ sym (⊗_assoc (sign R n) (sign R (m * n)) D)
      ∙ ap (λ (x : C). x ⊗ D) (⊗_comm (sign R n) (sign R (m * n)) ∙ sym (sign-add R (m * n) n)))
    where
      D : C
      D = det R (suc (n + m)) (stack (suc m) g f)

      top : (k : ℕ) → k < suc (n + m) → stack n f g n k ≡ g zero k
      top k lk = ap (λ (r : ℕ → C). r k) (ap (stack n f g) (sym (add-zero n)) ∙ stack_high n zero f g)

      moved : (j : ℕ) → det R (n + m) (λ a k. stack n f g (front n (suc a)) (skip j k))
          ≡ det R (n + m) (stack n (λ a k. f a (skip j k)) (λ a k. g (suc a) (skip j k)))
      moved j =
          det_ext R (n + m) _ _ (λ a k la lk. ap (λ (r : ℕ → C). r (skip j k)) (stack-front n f g a) ∙ stack_columns n f (λ i. g (suc i)) (skip j) a k)

      back : (j : ℕ) → sign R (m * n) ⊗ det R (n + m) (stack m (λ a k. g (suc a) (skip j k)) (λ a k. f a (skip j k)))
          ≡ sign R (m * n) ⊗ det R (n + m) (λ a k. stack m (λ i. g (suc i)) f a (skip j k))
      back j =
          ap (λ (x : C). sign R (m * n) ⊗ x) (det_ext R (n + m) _ _ (λ a k la lk. sym (stack_columns m (λ i. g (suc i)) f (skip j) a k)))

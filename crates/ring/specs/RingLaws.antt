-- Laws of every commutative ring: zero, negatives, powers and signs.
use Prim.Native.Nat.{ℕ, zero, suc, ◌+◌, ◌*◌, ◌%◌}
use Rattle.std.proofs.Common.{◌∙◌, arith}
use Rattle.std.proofs.Math.Nat.{suc-add, zero-add, mul-suc, mul-zero}
use Rattle.std.specs.Prelude.{◌≡◌}
use Rattle.std.proofs.Math.Path.{refl, sym, ap}
use Rattle.ring.specs.Ring.{Ring, pow, sign}

module _ (R : Ring) where
  open R use {C, ◌⊕◌, ◌⊗◌, ⊖◌, 𝟘, 𝟙, ⊕_assoc, ⊕_comm, ⊕-zero, ⊕-neg, ⊗_assoc, ⊗_comm, ⊗-one, ⊗_dist}

  pub zero-⊕ : (x : C) → 𝟘 ⊕ x ≡ x
  zero-⊕ x = ⊕_comm 𝟘 x ∙ ⊕-zero x

  pub one-⊗ : (x : C) → 𝟙 ⊗ x ≡ x
  one-⊗ x = ⊗_comm 𝟙 x ∙ ⊗-one x

  pub neg-⊕ : (x : C) → (⊖ x) ⊕ x ≡ 𝟘
  neg-⊕ x = ⊕_comm (⊖ x) x ∙ ⊕-neg x

  pub dist-⊗ : (x y z : C) → (x ⊕ y) ⊗ z ≡ (x ⊗ z) ⊕ (y ⊗ z)
  dist-⊗ x y z = ⊗_comm (x ⊕ y) z ∙ ⊗_dist z x y ∙ (rw (⊗_comm z x, ⊗_comm z y) refl)

  -- an addend on both sides goes away
  pub ⊕_cancel : (x y z : C) → x ⊕ z ≡ y ⊕ z → x ≡ y
  ⊕_cancel x y z h =
      sym (cut x) ∙ ap (λ (t : C). t ⊕ (⊖ z)) h ∙ cut y
    where
      cut : (w : C) → (w ⊕ z) ⊕ (⊖ z) ≡ w
      cut w = ⊕_assoc w z (⊖ z) ∙ ap (λ (t : C). w ⊕ t) (⊕-neg z) ∙ ⊕-zero w

  -- the negative is the only element that adds to zero
  pub neg_unique : (x y : C) → x ⊕ y ≡ 𝟘 → x ≡ ⊖ y
  neg_unique x y h = ⊕_cancel x (⊖ y) y (h ∙ sym (neg-⊕ y))

  pub neg-neg : (x : C) → ⊖ (⊖ x) ≡ x
  neg-neg x = sym (neg_unique x (⊖ x) (⊕-neg x))

  pub neg-zero : ⊖ 𝟘 ≡ 𝟘
  neg-zero = sym (neg_unique 𝟘 𝟘 (⊕-zero 𝟘))

  pub ⊗-zero : (x : C) → x ⊗ 𝟘 ≡ 𝟘
  ⊗-zero x = ⊕_cancel (x ⊗ 𝟘) 𝟘 (x ⊗ 𝟘) (sym (⊗_dist x 𝟘 𝟘) ∙ ap (λ (t : C). x ⊗ t) (⊕-zero 𝟘) ∙ sym (zero-⊕ (x ⊗ 𝟘)))

  pub zero-⊗ : (x : C) → 𝟘 ⊗ x ≡ 𝟘
  zero-⊗ x = ⊗_comm 𝟘 x ∙ ⊗-zero x

  pub ⊗-neg : (x y : C) → x ⊗ (⊖ y) ≡ ⊖ (x ⊗ y)
  ⊗-neg x y = neg_unique (x ⊗ (⊖ y)) (x ⊗ y) (sym (⊗_dist x (⊖ y) y) ∙ ap (λ (t : C). x ⊗ t) (neg-⊕ y) ∙ ⊗-zero x)

  pub neg-⊗ : (x y : C) → (⊖ x) ⊗ y ≡ ⊖ (x ⊗ y)
  neg-⊗ x y = ⊗_comm (⊖ x) y ∙ ⊗-neg y x ∙ ap (λ (t : C). ⊖ t) (⊗_comm y x)

  pub neg_dist : (x y : C) → ⊖ (x ⊕ y) ≡ (⊖ x) ⊕ (⊖ y)
  neg_dist x y = sym (neg_unique ((⊖ x) ⊕ (⊖ y)) (x ⊕ y) sums)
    where
      sums : ((⊖ x) ⊕ (⊖ y)) ⊕ (x ⊕ y) ≡ 𝟘
      sums =
          ap (λ (t : C). ((⊖ x) ⊕ (⊖ y)) ⊕ t) (⊕_comm x y)
          ∙ ⊕_assoc (⊖ x) (⊖ y) (y ⊕ x)
          ∙ ap (λ (t : C). (⊖ x) ⊕ t) (sym (⊕_assoc (⊖ y) y x) ∙ ap (λ (t : C). t ⊕ x) (neg-⊕ y) ∙ zero-⊕ x)
          ∙ neg-⊕ x

  pub ⊕_left_comm : (x y z : C) → x ⊕ (y ⊕ z) ≡ y ⊕ (x ⊕ z)
  ⊕_left_comm x y z = sym (⊕_assoc x y z) ∙ ap (λ (t : C). t ⊕ z) (⊕_comm x y) ∙ ⊕_assoc y x z

  pub ⊗_left_comm : (x y z : C) → x ⊗ (y ⊗ z) ≡ y ⊗ (x ⊗ z)
  ⊗_left_comm x y z = sym (⊗_assoc x y z) ∙ ap (λ (t : C). t ⊗ z) (⊗_comm x y) ∙ ⊗_assoc y x z

  -- x ⊕ ⊖ y ≡ 𝟘 exactly when x ≡ y
  pub sub-zero-eq : (x y : C) → x ⊕ (⊖ y) ≡ 𝟘 → x ≡ y
  sub-zero-eq x y h = neg_unique x (⊖ y) h ∙ neg-neg y

  pub pow-add : (x : C) (m n : ℕ) → pow R x (m + n) ≡ pow R x m ⊗ pow R x n
  unfolding pow
  pow-add x zero n = rw zero-add (sym (one-⊗ (pow R x n)))
  pow-add x (suc m) n = rw suc-add (ap (λ (t : C). x ⊗ t) (pow-add x m n) ∙ sym (⊗_assoc x (pow R x m) (pow R x n)))

  pub pow-one : (n : ℕ) → pow R 𝟙 n ≡ 𝟙
  unfolding pow
  pow-one zero = refl
  pow-one (suc n) = one-⊗ (pow R 𝟙 n) ∙ pow-one n

  pub pow-⊗ : (x y : C) (n : ℕ) → pow R (x ⊗ y) n ≡ pow R x n ⊗ pow R y n
  unfolding pow
  pow-⊗ x y zero = sym (⊗-one 𝟙)
  pow-⊗ x y (suc n) =
      ap (λ (t : C). (x ⊗ y) ⊗ t) (pow-⊗ x y n)
      ∙ simp (⊗_assoc, ⊗_comm)

  pub pow-mul : (x : C) (m n : ℕ) → pow R x (m * n) ≡ pow R (pow R x m) n
  unfolding pow
  pow-mul x m zero = rw mul-zero refl
  pow-mul x m (suc n) =
      rw mul-suc (pow-add x (m * n) m
      ∙ ⊗_comm (pow R x (m * n)) (pow R x m)
      ∙ ap (λ (t : C). pow R x m ⊗ t) (pow-mul x m n))

  pub sign-pow : (n : ℕ) → sign R n ≡ pow R (⊖ 𝟙) n
  unfolding pow sign
  sign-pow zero = refl
  sign-pow (suc n) = ap (λ (t : C). ⊖ t) (sign-pow n ∙ sym (one-⊗ (pow R (⊖ 𝟙) n))) ∙ sym (neg-⊗ 𝟙 (pow R (⊖ 𝟙) n))

  pub sign-add : (m n : ℕ) → sign R (m + n) ≡ sign R m ⊗ sign R n
  sign-add m n = simp (sign-pow, pow-add)

  pub sign_sq : (n : ℕ) → sign R n ⊗ sign R n ≡ 𝟙
  unfolding sign
  sign_sq zero = ⊗-one 𝟙
  sign_sq (suc n) = neg-⊗ (sign R n) (⊖ (sign R n)) ∙ ap (λ (t : C). ⊖ t) (⊗-neg (sign R n) (sign R n)) ∙ neg-neg (sign R n ⊗ sign R n) ∙ sign_sq n

  -- a sign by the last binary digit
  pub sign_even : (n : ℕ) → n % 2 ≡ 0 → sign R n ≡ 𝟙
  unfolding sign
  sign_even zero h = refl
  sign_even (suc zero) h = absurd (omega arith)
  sign_even (suc (suc n)) h = neg-neg (sign R n) ∙ sign_even n (omega arith)

  pub sign_odd : (n : ℕ) → (n % 2 ≡ 0 → ⊥) → sign R n ≡ ⊖ 𝟙
  unfolding sign
  sign_odd zero h = absurd (h refl)
  sign_odd (suc zero) h = refl
  sign_odd (suc (suc n)) h = neg-neg (sign R n) ∙ sign_odd n (λ e. h (omega arith))

  -- a sign taken twice goes away
  pub sign_twice : (m n : ℕ) → sign R (m + n) ⊗ sign R n ≡ sign R m
  sign_twice m n =
      ap (λ (t : C). t ⊗ sign R n) (sign-add m n)
      ∙ ⊗_assoc (sign R m) (sign R n) (sign R n)
      ∙ ap (λ (t : C). sign R m ⊗ t) (sign_sq n)
      ∙ ⊗-one (sign R m)

-- Commutative rings with one.
--
--   Ring            a carrier C with _⊕_ _⊗_ ⊖_ 𝟘 𝟙 and eight laws
--   pow R x n       x ⊗ .. ⊗ x, n times; 𝟙 for n = 0
--   sign R n        (-1)^n
use Rattle.std.specs.Prelude.{ℕ, zero, suc, ◌≡◌}

pub record Ring : Type 1 where
  pub C : Type 0
  pub ◌⊕◌ : C → C → C
  pub ◌⊗◌ : C → C → C
  pub ⊖◌ : C → C
  pub 𝟘 : C
  pub 𝟙 : C
  pub ⊕_assoc : (x y z : C) → (x ⊕ y) ⊕ z ≡ x ⊕ (y ⊕ z)
  pub ⊕_comm : (x y : C) → x ⊕ y ≡ y ⊕ x
  pub ⊕-zero : (x : C) → x ⊕ 𝟘 ≡ x
  pub ⊕-neg : (x : C) → x ⊕ (⊖ x) ≡ 𝟘
  pub ⊗_assoc : (x y z : C) → (x ⊗ y) ⊗ z ≡ x ⊗ (y ⊗ z)
  pub ⊗_comm : (x y : C) → x ⊗ y ≡ y ⊗ x
  pub ⊗-one : (x : C) → x ⊗ 𝟙 ≡ x
  pub ⊗_dist : (x y z : C) → x ⊗ (y ⊕ z) ≡ (x ⊗ y) ⊕ (x ⊗ z)
  infixl 60 ◌⊕◌
  infixl 70 ◌⊗◌
  infix 80 ⊖◌

module _ (R : Ring) where
  open R use {C, ◌⊗◌, ⊖◌, 𝟙}

  unfoldable pub pow : C → ℕ → C
  pow x zero = 𝟙
  pow x (suc n) = x ⊗ pow x n

  unfoldable pub sign : ℕ → C
  sign zero = 𝟙
  sign (suc n) = ⊖ (sign n)

-- Interpolation over a commutative ring: Newton's rule. Points and values are functions of an index below N.
--
--   Regular R N x         the differences of the first N points can be cancelled
--   prod R n f            f 0 ⊗ f 1 ⊗ .. ⊗ f (n-1)
--   linear R a            y − a
--   product R N x         the product of y − x i for i < N
--   weight                the factor of `product N x` in Newton's next step
--   newton R inv x v N    the polynomial of N coefficients that takes v i at x i, i < N
--   Invertible            inv inverts each value at x n of the product of y − x i, i < n
use Rattle.std.specs.Prelude.{ℕ, zero, suc, ◌<◌, ◌≡◌}
use Rattle.ring.specs.Ring.{Ring}
use Rattle.polynomial.specs.Convolution.{one}
use Rattle.polynomial.specs.Poly.{poly}
use Rattle.polynomial.specs.Value.{value}

module _ (R : Ring) where
  open R use {C, ◌⊕◌, ◌⊗◌, ⊖◌, 𝟘, 𝟙}

  abbrev pub Regular : ℕ → (ℕ → C) → Type 0
  Regular N x = (i j : ℕ) → i < j → j < N → (c : C) → (x j ⊕ (⊖ x i)) ⊗ c ≡ 𝟘 → c ≡ 𝟘

  unfoldable pub prod : ℕ → (ℕ → C) → C
  prod zero f = 𝟙
  prod (suc n) f = f zero ⊗ prod n (λ i. f (suc i))

  unfoldable pub linear : C → ℕ → C
  linear a zero = ⊖ a
  linear a (suc k) = one R k

module _ (R : Ring) where
  open R use {C, ◌⊕◌, ◌⊗◌, ⊖◌, 𝟘, 𝟙}

  unfoldable pub product : ℕ → (ℕ → C) → ℕ → C
  product N x = prod (poly R) N (λ i. linear R (x i))

  module _ (inv : C → C) (x v : ℕ → C) where
    unfoldable pub weight : ℕ → (ℕ → C) → C
    weight N f = (v N ⊕ (⊖ value R N f (x N))) ⊗ inv (value R (suc N) (product N x) (x N))

    unfoldable pub newton : ℕ → ℕ → C
    newton zero k = 𝟘
    newton (suc N) k = newton N k ⊕ (weight N (newton N) ⊗ product N x k)

    abbrev pub Invertible : ℕ → Type 0
    Invertible N = (n : ℕ) → n < N → value R (suc n) (product n x) (x n) ⊗ inv (value R (suc n) (product n x) (x n)) ≡ 𝟙

-- What each operation of the ring of polynomials is at one coefficient.
--
--   poly-⊕, poly-⊗, poly-⊖, poly-𝟘, poly-𝟙, poly-𝟙-suc   the operation of that name at coefficient k
use Rattle.std.specs.Prelude.{ℕ, zero, suc, ◌-◌, ◌≡◌}
use Rattle.std.proofs.Math.Path.{refl}
use Rattle.ring.specs.Ring.{Ring}
use Rattle.ring.specs.Sum.{sum}
use Rattle.polynomial.specs.Convolution.{plus, minus, nil, one}
use Rattle.polynomial.specs.ConvolutionLaws.{conv-sum}
use Rattle.polynomial.specs.Poly.{poly}

module _ (R : Ring) where
  open R use {C, ◌⊕◌, ◌⊗◌, ⊖◌, 𝟘, 𝟙}

  pub poly-⊕ : (f g : ℕ → C) (k : ℕ) → Ring.◌⊕◌ (poly R) f g k ≡ f k ⊕ g k
  unfolding plus
  poly-⊕ f g k = refl

  pub poly-⊗ : (f g : ℕ → C) (k : ℕ) → Ring.◌⊗◌ (poly R) f g k ≡ sum R (suc k) (λ i. f i ⊗ g (k - i))
  poly-⊗ f g k = conv-sum R f g k

  pub poly-⊖ : (f : ℕ → C) (k : ℕ) → Ring.⊖◌ (poly R) f k ≡ ⊖ f k
  unfolding minus
  poly-⊖ f k = refl

  pub poly-𝟘 : (k : ℕ) → Ring.𝟘 (poly R) k ≡ 𝟘
  unfolding nil
  poly-𝟘 k = refl

  pub poly-𝟙 : Ring.𝟙 (poly R) zero ≡ 𝟙
  unfolding one
  poly-𝟙 = refl

  pub poly-𝟙-suc : (k : ℕ) → Ring.𝟙 (poly R) (suc k) ≡ 𝟘
  unfolding one
  poly-𝟙-suc k = refl

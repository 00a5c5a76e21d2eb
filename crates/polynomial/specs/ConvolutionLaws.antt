-- Laws of the product of coefficient functions, at each coefficient.
--
--   conv-sum        the product at k as one sum
--   conv-last       the same recursion on the other factor
--   conv-zero       a factor without coefficients other than 𝟘 gives none
--   conv-scale      a multiple of a factor
--   conv_comm, conv_assoc, conv_dist, dist-conv, one-conv   the laws of a ring
use Prim.Native.Nat.{ℕ, zero, suc, ◌-◌}
use Rattle.std.proofs.Math.Nat.{sub-zero, suc-sub-suc}
use Rattle.std.specs.Prelude.{◌≡◌, refl}
use Rattle.std.proofs.Math.Path.{sym, ap, ap₂}
use Rattle.std.proofs.Common.{◌∙◌}
use Rattle.ring.specs.Ring.{Ring}
use Rattle.ring.specs.RingLaws.{one-⊗, zero-⊗, dist-⊗, ⊕_left_comm}
use Rattle.ring.specs.Sum.{sum}
use Rattle.ring.specs.SumLaws.{sum_ext}
use Rattle.polynomial.specs.Convolution.{conv, one}

module _ (R : Ring) where
  open R use {C, ◌⊕◌, ◌⊗◌, 𝟘, 𝟙, ⊕_assoc, ⊕_comm, ⊕-zero, ⊗_assoc, ⊗_comm, ⊗_dist}

  pub conv-sum : (f g : ℕ → C) (k : ℕ) → conv R f g k ≡ sum R (suc k) (λ i. f i ⊗ g (k - i))
  unfolding conv sum
  conv-sum f g zero = sym (⊕-zero (f zero ⊗ g zero))
  conv-sum f g (suc k) =
      ap₂ (λ (l : ℕ) (t : C). (f zero ⊗ g l) ⊕ t)
      (sym (sub-zero (suc k)))
      (conv-sum (λ i. f (suc i)) g k
      ∙ sum_ext R (suc k) (λ i. f (suc i) ⊗ g (k - i)) (λ i. f (suc i) ⊗ g (suc k - suc i))
      (λ i b. ap (λ (l : ℕ). f (suc i) ⊗ g l) (sym (suc-sub-suc k i))))

  -- the same recursion on the other factor
  pub conv-last : (f g : ℕ → C) (k : ℕ) → conv R f g (suc k) ≡ (f (suc k) ⊗ g zero) ⊕ conv R f (λ i. g (suc i)) k
  unfolding conv
  conv-last f g zero = ⊕_comm (f zero ⊗ g (suc zero)) (f (suc zero) ⊗ g zero)
  conv-last f g (suc k) =
      ap (λ (t : C). (f zero ⊗ g (suc (suc k))) ⊕ t) (conv-last (λ i. f (suc i)) g k)
      ∙ ⊕_left_comm R (f zero ⊗ g (suc (suc k))) (f (suc (suc k)) ⊗ g zero) (conv R (λ i. f (suc i)) (λ i. g (suc i)) k)

  pub conv_comm : (f g : ℕ → C) (k : ℕ) → conv R f g k ≡ conv R g f k
  unfolding conv
  conv_comm f g zero = ⊗_comm (f zero) (g zero)
  conv_comm f g (suc k) =
      ap₂ (λ (s t : C). s ⊕ t) (⊗_comm (f zero) (g (suc k))) (conv_comm (λ i. f (suc i)) g k)
      ∙ sym (conv-last g f k)

  pub conv-zero : (f g : ℕ → C) → ((i : ℕ) → f i ≡ 𝟘) → (k : ℕ) → conv R f g k ≡ 𝟘
  unfolding conv
  conv-zero f g h zero = ap (λ (t : C). t ⊗ g zero) (h zero) ∙ zero-⊗ R (g zero)
  conv-zero f g h (suc k) =
      ap₂ (λ (s t : C). (s ⊗ g (suc k)) ⊕ t) (h zero) (conv-zero (λ i. f (suc i)) g (λ i. h (suc i)) k)
      ∙ ⊕-zero (𝟘 ⊗ g (suc k))
      ∙ zero-⊗ R (g (suc k))

  pub conv-scale : (c : C) (f g : ℕ → C) (k : ℕ) → conv R (λ i. c ⊗ f i) g k ≡ c ⊗ conv R f g k
  unfolding conv
  conv-scale c f g zero = ⊗_assoc c (f zero) (g zero)
  conv-scale c f g (suc k) =
      ap₂ (λ (s t : C). s ⊕ t) (⊗_assoc c (f zero) (g (suc k))) (conv-scale c (λ i. f (suc i)) g k)
      ∙ sym (⊗_dist c (f zero ⊗ g (suc k)) (conv R (λ i. f (suc i)) g k))

  pub conv_dist : (f g h : ℕ → C) (k : ℕ) → conv R (λ i. f i ⊕ g i) h k ≡ conv R f h k ⊕ conv R g h k
  unfolding conv
  conv_dist f g h zero = dist-⊗ R (f zero) (g zero) (h zero)
  conv_dist f g h (suc k) =
      ap₂ (λ (s t : C). s ⊕ t) (dist-⊗ R (f zero) (g zero) (h (suc k))) (conv_dist (λ i. f (suc i)) (λ i. g (suc i)) h k)
      ∙ simp (⊕_assoc, ⊕_comm)

  pub dist-conv : (f g h : ℕ → C) (k : ℕ) → conv R f (λ i. g i ⊕ h i) k ≡ conv R f g k ⊕ conv R f h k
  dist-conv f g h k =
      conv_comm f (λ i. g i ⊕ h i) k ∙ conv_dist g h f k ∙ ap₂ (λ (s t : C). s ⊕ t) (conv_comm g f k) (conv_comm h f k)

  pub conv_assoc : (f g h : ℕ → C) (k : ℕ) → conv R (conv R f g) h k ≡ conv R f (conv R g h) k
  unfolding conv
  conv_assoc f g h zero = ⊗_assoc (f zero) (g zero) (h zero)
  conv_assoc f g h (suc k) =
      let f' : ℕ → C = λ i. f (suc i) in
      let g' : ℕ → C = λ i. g (suc i) in
      ap₂ (λ (s t : C). s ⊕ t)
      (⊗_assoc (f zero) (g zero) (h (suc k)))
      (conv_dist (λ i. f zero ⊗ g' i) (conv R f' g) h k
      ∙ ap₂ (λ (s t : C). s ⊕ t) (conv-scale (f zero) g' h k) (conv_assoc f' g h k))
      ∙ sym (⊕_assoc (f zero ⊗ (g zero ⊗ h (suc k))) (f zero ⊗ conv R g' h k) (conv R f' (conv R g h) k))
      ∙ ap (λ (t : C). t ⊕ conv R f' (conv R g h) k) (sym (⊗_dist (f zero) (g zero ⊗ h (suc k)) (conv R g' h k)))

  pub one-conv : (f : ℕ → C) (k : ℕ) → conv R (one R) f k ≡ f k
  unfolding conv one
  one-conv f zero = one-⊗ R (f zero)
  one-conv f (suc k) =
      ap₂ (λ (s t : C). s ⊕ t) (one-⊗ R (f (suc k))) (conv-zero (λ i. 𝟘) f (λ i. refl) k) ∙ ⊕-zero (f (suc k))

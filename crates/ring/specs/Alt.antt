-- Laws of alternating sums, the sums that determinants are made of. Import this to prove something about `alt`.
--
--   alt_ext         equal terms give equal sums; only the terms below the length count
--   alt-add         the sum of two alternating sums, term by term
--   alt-neg         the negative, term by term
--   alt-scale       a common factor
--   alt-linear      the two together: a sum and a multiple of another
--   alt-zero        terms that are all zero
--   alt_swap        the two sums of a double sum may be exchanged
--   alt_single      a sum with one term that may differ from zero
use Prim.Native.Nat.{ℕ, zero, suc, ◌<◌}
use Rattle.std.proofs.Common.{suc-ne-zero, arith, ◌∙◌}
use Rattle.std.specs.Prelude.{◌≡◌, ◌≢◌}
use Rattle.std.proofs.Math.Path.{refl, sym, ap}
use Rattle.ring.specs.Ring.{Ring, sign}
use Rattle.ring.specs.RingLaws.{one-⊗, neg-zero, neg_dist, ⊗-zero, ⊗-neg, neg-⊗, zero-⊕}
use Rattle.ring.specs.Sum.{alt}

module _ (R : Ring) where
  open R use {C, ◌⊕◌, ◌⊗◌, ⊖◌, 𝟘, ⊕_assoc, ⊕_comm, ⊕-zero, ⊗_dist}

  pub alt_ext : (n : ℕ) (f g : ℕ → C) → ((i : ℕ) → i < n → f i ≡ g i) → alt R n f ≡ alt R n g
  unfolding alt
  alt_ext zero f g h = refl
  alt_ext (suc n) f g h =
      ap (λ (t : C). t ⊕ (⊖ alt R n (λ i. f (suc i)))) (h zero (omega arith))
      ∙ ap (λ (t : C). g zero ⊕ (⊖ t)) (alt_ext n (λ i. f (suc i)) (λ i. g (suc i)) (λ i l. h (suc i) (omega arith)))

  pub alt-add : (n : ℕ) (f g : ℕ → C) → alt R n (λ i. f i ⊕ g i) ≡ alt R n f ⊕ alt R n g
  unfolding alt
  alt-add zero f g = sym (⊕-zero 𝟘)
  alt-add (suc n) f g =
      ap (λ (t : C). (f zero ⊕ g zero) ⊕ (⊖ t)) (alt-add n (λ i. f (suc i)) (λ i. g (suc i)))
      ∙ simp (neg_dist R, ⊕_assoc, ⊕_comm)

  pub alt-scale : (n : ℕ) (c : C) (f : ℕ → C) → alt R n (λ i. c ⊗ f i) ≡ c ⊗ alt R n f
  unfolding alt
  alt-scale zero c f = sym (⊗-zero R c)
  alt-scale (suc n) c f =
      ap (λ (t : C). (c ⊗ f zero) ⊕ (⊖ t)) (alt-scale n c (λ i. f (suc i)))
      ∙ simp (⊗_dist, ⊗-neg R)

  pub alt-linear : (n : ℕ) (c : C) (f g : ℕ → C) → alt R n (λ i. f i ⊕ c ⊗ g i) ≡ alt R n f ⊕ c ⊗ alt R n g
  alt-linear n c f g = alt-add n f (λ i. c ⊗ g i) ∙ ap (λ (t : C). alt R n f ⊕ t) (alt-scale n c g)

  pub alt-neg : (n : ℕ) (f : ℕ → C) → alt R n (λ i. ⊖ (f i)) ≡ ⊖ alt R n f
  unfolding alt
  alt-neg zero f = sym (neg-zero R)
  alt-neg (suc n) f =
      ap (λ (t : C). (⊖ (f zero)) ⊕ (⊖ t)) (alt-neg n (λ i. f (suc i)))
      ∙ sym (neg_dist R (f zero) (⊖ alt R n (λ i. f (suc i))))

  pub alt-zero : (n : ℕ) (f : ℕ → C) → ((i : ℕ) → i < n → f i ≡ 𝟘) → alt R n f ≡ 𝟘
  unfolding alt
  alt-zero zero f h = refl
  alt-zero (suc n) f h =
      ap (λ (t : C). t ⊕ (⊖ alt R n (λ i. f (suc i)))) (h zero (omega arith))
      ∙ ap (λ (t : C). 𝟘 ⊕ (⊖ t)) (alt-zero n (λ i. f (suc i)) (λ i l. h (suc i) (omega arith)))
      ∙ zero-⊕ R (⊖ 𝟘)
      ∙ neg-zero R

  pub alt_swap : (m n : ℕ) (f : ℕ → ℕ → C) → alt R m (λ i. alt R n (λ k. f i k)) ≡ alt R n (λ k. alt R m (λ i. f i k))
  unfolding alt
  alt_swap zero n f = sym (alt-zero n (λ k. 𝟘) (λ k l. refl))
  alt_swap (suc m) n f =
      ap (λ (t : C). alt R n (λ k. f zero k) ⊕ (⊖ t)) (alt_swap m n (λ i. f (suc i)))
      ∙ ap (λ (t : C). alt R n (λ k. f zero k) ⊕ t) (sym (alt-neg n (λ k. alt R m (λ i. f (suc i) k))))
      ∙ sym (alt-add n (λ k. f zero k) (λ k. ⊖ alt R m (λ i. f (suc i) k)))

  pub alt_single : (n r : ℕ) (f : ℕ → C) → r < n → ((i : ℕ) → i < n → i ≢ r → f i ≡ 𝟘) → alt R n f ≡ sign R r ⊗ f r
  unfolding alt sign
  alt_single zero r f l h = absurd (omega arith)
  alt_single (suc n) zero f l h =
      ap (λ (t : C). f zero ⊕ (⊖ t)) (alt-zero n (λ i. f (suc i)) (λ i l. h (suc i) (omega arith) (suc-ne-zero i)))
      ∙ ap (λ (t : C). f zero ⊕ t) (neg-zero R)
      ∙ ⊕-zero (f zero)
      ∙ sym (one-⊗ R (f zero))
  alt_single (suc n) (suc r) f l h =
      ap (λ (t : C). t ⊕ (⊖ alt R n (λ i. f (suc i)))) (h zero (omega arith) (omega arith))
      ∙ zero-⊕ R (⊖ alt R n (λ i. f (suc i)))
      ∙ ap (λ (t : C). ⊖ t) (alt_single n r (λ i. f (suc i)) (omega arith) (λ i l e. h (suc i) (omega arith) (omega arith)))
      ∙ sym (neg-⊗ R (sign R r) (f (suc r)))

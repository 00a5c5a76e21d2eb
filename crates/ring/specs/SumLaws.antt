-- Laws of finite sums in every commutative ring.
--
--   sum_ext         equal terms below n, equal sums
--   sum-zero        terms that are all 𝟘 sum to 𝟘
--   sum_one         the sum of one term
--   sum-⊕           the sum of f i ⊕ g i
--   sum-neg         the sum of ⊖ f i
--   scale-sum       c ⊗ sum; sum-scale: sum ⊗ c
--   sum-last        the last term taken off
--   sum_split       m + n terms: the first m, then n more
--   sum_more        terms that are 𝟘 from m on add nothing
--   sum_swap        two sums exchanged
use Prim.Native.Nat.{ℕ, zero, suc, ◌+◌, ◌<◌, ◌≤◌}
use Rattle.std.proofs.Math.Nat.{suc-add, suc-le-suc_iff, le_dest}
use Rattle.std.proofs.Common.{zero-add, zero-lt-suc, le-add_right, ◌∙◌}
use Rattle.std.specs.Prelude.{◌≡◌}
use Rattle.std.proofs.Math.Path.{refl, sym, ap, ap₂}
use Rattle.ring.specs.Ring.{Ring}
use Rattle.ring.specs.RingLaws.{zero-⊕, dist-⊗, zero-⊗, ⊗-zero, neg-zero, neg_dist}
use Rattle.ring.specs.Sum.{sum}

module _ (R : Ring) where
  open R use {C, ◌⊕◌, ◌⊗◌, ⊖◌, 𝟘, ⊕_assoc, ⊕_comm, ⊕-zero, ⊗_dist}

  pub sum_ext : (n : ℕ) (f g : ℕ → C) → ((i : ℕ) → i < n → f i ≡ g i) → sum R n f ≡ sum R n g
  unfolding sum
  sum_ext zero f g h = refl
  sum_ext (suc n) f g h =
      ap₂ (λ (s t : C). s ⊕ t) (h zero (zero-lt-suc n)) (sum_ext n (λ i. f (suc i)) (λ i. g (suc i)) (λ i b. h (suc i) (suc-le-suc_iff.1 b)))

  pub sum-zero : (n : ℕ) (f : ℕ → C) → ((i : ℕ) → i < n → f i ≡ 𝟘) → sum R n f ≡ 𝟘
  unfolding sum
  sum-zero zero f h = refl
  sum-zero (suc n) f h =
      ap₂ (λ (s t : C). s ⊕ t) (h zero (zero-lt-suc n)) (sum-zero n (λ i. f (suc i)) (λ i b. h (suc i) (suc-le-suc_iff.1 b))) ∙ ⊕-zero 𝟘

  pub sum_one : (f : ℕ → C) → sum R (suc zero) f ≡ f zero
  unfolding sum
  sum_one f = ⊕-zero (f zero)

  pub sum-⊕ : (n : ℕ) (f g : ℕ → C) → sum R n (λ i. f i ⊕ g i) ≡ sum R n f ⊕ sum R n g
  unfolding sum
  sum-⊕ zero f g = sym (⊕-zero 𝟘)
  sum-⊕ (suc n) f g =
      ap (λ (t : C). (f zero ⊕ g zero) ⊕ t) (sum-⊕ n (λ i. f (suc i)) (λ i. g (suc i)))
      ∙ simp (⊕_assoc, ⊕_comm)

  pub sum-neg : (n : ℕ) (f : ℕ → C) → sum R n (λ i. ⊖ f i) ≡ ⊖ sum R n f
  unfolding sum
  sum-neg zero f = sym (neg-zero R)
  sum-neg (suc n) f =
      ap (λ (t : C). (⊖ f zero) ⊕ t) (sum-neg n (λ i. f (suc i))) ∙ sym (neg_dist R (f zero) (sum R n (λ i. f (suc i))))

  pub scale-sum : (n : ℕ) (c : C) (f : ℕ → C) → c ⊗ sum R n f ≡ sum R n (λ i. c ⊗ f i)
  unfolding sum
  scale-sum zero c f = ⊗-zero R c
  scale-sum (suc n) c f =
      ⊗_dist c (f zero) (sum R n (λ i. f (suc i))) ∙ ap (λ (t : C). (c ⊗ f zero) ⊕ t) (scale-sum n c (λ i. f (suc i)))

  pub sum-scale : (n : ℕ) (f : ℕ → C) (c : C) → sum R n f ⊗ c ≡ sum R n (λ i. f i ⊗ c)
  unfolding sum
  sum-scale zero f c = zero-⊗ R c
  sum-scale (suc n) f c =
      dist-⊗ R (f zero) (sum R n (λ i. f (suc i))) c ∙ ap (λ (t : C). (f zero ⊗ c) ⊕ t) (sum-scale n (λ i. f (suc i)) c)

  pub sum-last : (n : ℕ) (f : ℕ → C) → sum R (suc n) f ≡ sum R n f ⊕ f n
  unfolding sum
  sum-last zero f = ⊕_comm (f zero) 𝟘
  sum-last (suc n) f =
      ap (λ (t : C). f zero ⊕ t) (sum-last n (λ i. f (suc i)))
      ∙ sym (⊕_assoc (f zero) (sum R n (λ i. f (suc i))) (f (suc n)))

  pub sum_split : (m n : ℕ) (f : ℕ → C) → sum R (m + n) f ≡ sum R m f ⊕ sum R n (λ i. f (m + i))
  unfolding sum
  sum_split zero n f = simp (zero-add, zero-⊕ R)
  sum_split (suc m) n f = simp suc-add (ap (λ (t : C). f zero ⊕ t) (sum_split m n (λ i. f (suc i))) ∙ sym (⊕_assoc (f zero) _ _))

  pub sum_more : (m n : ℕ) (f : ℕ → C) → m ≤ n → ((i : ℕ) → m ≤ i → f i ≡ 𝟘) → sum R n f ≡ sum R m f
  sum_more m n f b h =
      let k : ℕ = (le_dest b).0 in
      ap (λ (l : ℕ). sum R l f) (sym (le_dest b).1)
      ∙ sum_split m k f
      ∙ ap (λ (t : C). sum R m f ⊕ t) (sum-zero k (λ i. f (m + i)) (λ i c. h (m + i) (le-add_right m i)))
      ∙ ⊕-zero (sum R m f)

  pub sum_swap : (m n : ℕ) (f : ℕ → ℕ → C) → sum R m (λ i. sum R n (λ j. f i j)) ≡ sum R n (λ j. sum R m (λ i. f i j))
  unfolding sum
  sum_swap zero n f = sym (sum-zero n (λ j. 𝟘) (λ i b. refl))
  sum_swap (suc m) n f =
      ap (λ (t : C). sum R n (λ j. f zero j) ⊕ t) (sum_swap m n (λ i. f (suc i)))
      ∙ sym (sum-⊕ n (λ j. f zero j) (λ j. sum R m (λ i. f (suc i) j)))

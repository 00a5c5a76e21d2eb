-- How `top` and `moved` read at a place.
--
--   top_at, top_out          the entry k of top m a is a (m - k), or 𝟘 past m
--   moved_at, moved_out      the entry i + k of moved i r is r k, and 𝟘 before i
--   moved-moved              moving twice
--   top_shift                the coefficients of x^k b at degree m, highest first, are those of b moved right
use Prim.Native.Nat.{ℕ, zero, suc, ◌+◌, ◌-◌, ◌<◌, ◌≤◌}
use Rattle.std.proofs.Math.Nat.{zero-add, suc-add}
use Rattle.std.proofs.Common.{arith, ◌∙◌}
use Rattle.std.proofs.Math.Decide.{dec_lt}
use Rattle.std.specs.Prelude.{◌≡◌}
use Rattle.std.proofs.Math.Path.{refl, sym, ap}
use Rattle.ring.specs.Ring.{Ring}
use Rattle.ring.specs.RingLaws.{⊗-zero}
use Rattle.sylvester.specs.Sylvester.{top, moved}

module _ (R : Ring) where
  open R use {C, ◌⊕◌, ◌⊗◌, ⊖◌, 𝟘, 𝟙, ⊕-zero}

  pub top_at : (m : ℕ) (a : ℕ → C) (k : ℕ) → k ≤ m → top R m a k ≡ a (m - k)
  unfolding top
  top_at m a zero h = ap a (omega arith)
  top_at zero a (suc k) h = absurd (omega arith)
  top_at (suc m) a (suc k) h = top_at m a k (omega arith) ∙ ap a (omega arith)

  pub top_out : (m : ℕ) (a : ℕ → C) (k : ℕ) → m < k → top R m a k ≡ 𝟘
  unfolding top
  top_out m a zero h = absurd (omega arith)
  top_out zero a (suc k) h = refl
  top_out (suc m) a (suc k) h = top_out m a k (omega arith)

  pub moved_at : (i : ℕ) (r : ℕ → C) (k : ℕ) → moved R i r (i + k) ≡ r k
  unfolding moved
  moved_at zero r k = rw zero-add refl
  moved_at (suc i) r k = rw suc-add (moved_at i r k)

  pub moved_out : (i : ℕ) (r : ℕ → C) (k : ℕ) → k < i → moved R i r k ≡ 𝟘
  unfolding moved
  moved_out zero r k h = absurd (omega arith)
  moved_out (suc i) r zero h = refl
  moved_out (suc i) r (suc k) h = moved_out i r k (omega arith)

  pub moved-moved : (i s : ℕ) (r : ℕ → C) (k : ℕ) → moved R i (moved R s r) k ≡ moved R (i + s) r k
  unfolding moved
  moved-moved zero s r k = rw zero-add refl
  moved-moved (suc i) s r zero = rw suc-add refl
  moved-moved (suc i) s r (suc k) = rw suc-add (moved-moved i s r k)

  pub moved_ext : (i : ℕ) (r s : ℕ → C) (k : ℕ) → ((j : ℕ) → j ≤ k → r j ≡ s j) → moved R i r k ≡ moved R i s k
  unfolding moved
  moved_ext zero r s k h = h k (omega arith)
  moved_ext (suc i) r s zero h = refl
  moved_ext (suc i) r s (suc k) h = moved_ext i r s k (λ j l. h j (omega arith))

  pub moved-⊕ : (i : ℕ) (r s : ℕ → C) (k : ℕ) → moved R i (λ j. r j ⊕ s j) k ≡ moved R i r k ⊕ moved R i s k
  unfolding moved
  moved-⊕ zero r s k = refl
  moved-⊕ (suc i) r s zero = sym (⊕-zero 𝟘)
  moved-⊕ (suc i) r s (suc k) = moved-⊕ i r s k

  pub moved-⊗ : (i : ℕ) (c : C) (r : ℕ → C) (k : ℕ) → moved R i (λ j. c ⊗ r j) k ≡ c ⊗ moved R i r k
  unfolding moved
  moved-⊗ zero c r k = refl
  moved-⊗ (suc i) c r zero = sym (⊗-zero R c)
  moved-⊗ (suc i) c r (suc k) = moved-⊗ i c r k

  -- coefficients that are equal up to the declared degree give equal rows
  pub top_ext : (m : ℕ) (a b : ℕ → C) (k : ℕ) → ((j : ℕ) → j ≤ m → a j ≡ b j) → top R m a k ≡ top R m b k
  unfolding top
  top_ext m a b zero h = h m (omega arith)
  top_ext zero a b (suc k) h = refl
  top_ext (suc m) a b (suc k) h = top_ext m a b k (λ j l. h j (omega arith))

  pub top-⊕ : (m : ℕ) (a b : ℕ → C) (k : ℕ) → top R m (λ j. a j ⊕ b j) k ≡ top R m a k ⊕ top R m b k
  unfolding top
  top-⊕ m a b zero = refl
  top-⊕ zero a b (suc k) = sym (⊕-zero 𝟘)
  top-⊕ (suc m) a b (suc k) = top-⊕ m a b k

  pub top-⊗ : (m : ℕ) (c : C) (a : ℕ → C) (k : ℕ) → top R m (λ j. c ⊗ a j) k ≡ c ⊗ top R m a k
  unfolding top
  top-⊗ m c a zero = refl
  top-⊗ zero c a (suc k) = sym (⊗-zero R c)
  top-⊗ (suc m) c a (suc k) = top-⊗ m c a k

  -- a leading zero: the row of the higher degree is the lower one's moved right
  pub top-drop : (m : ℕ) (a : ℕ → C) (k : ℕ) → a (suc m) ≡ 𝟘 → top R (suc m) a k ≡ moved R 1 (top R m a) k
  unfolding top moved
  top-drop m a zero h = h
  top-drop m a (suc k) h = refl

  pub top_shift : (m n k s : ℕ) (b : ℕ → C) (t : ℕ) → s + (n + k) ≡ m → ((j : ℕ) → n < j → b j ≡ 𝟘)
      → top R m (moved R k b) t ≡ moved R s (top R n b) t
  top_shift m n k s b t e h = elim (dec_lt t s) [ yes l ↦ before l | no l ↦ after l ]
    where
      before : t < s → top R m (moved R k b) t ≡ moved R s (top R n b) t
      before l =
          top_at m (moved R k b) t (omega arith)
          ∙ ap (λ (z : ℕ). moved R k b z) place
          ∙ moved_at k b (n + (s - t))
          ∙ h (n + (s - t)) (omega arith)
          ∙ sym (moved_out s (top R n b) t l)
        where
          place : m - t ≡ k + (n + (s - t))
          place = omega arith

      after : (t < s → ⊥) → top R m (moved R k b) t ≡ moved R s (top R n b) t
      after l = elim (dec_lt n (t - s)) [ yes o ↦ outside o | no o ↦ inside o ]
        where
          right : moved R s (top R n b) t ≡ top R n b (t - s)
          right = let p : t ≡ s + (t - s) = omega arith in ap (λ (z : ℕ). moved R s (top R n b) z) p ∙ moved_at s (top R n b) (t - s)

          inside : (n < t - s → ⊥) → top R m (moved R k b) t ≡ moved R s (top R n b) t
          inside o =
              top_at m (moved R k b) t (omega arith)
              ∙ ap (λ (z : ℕ). moved R k b z) place
              ∙ moved_at k b (n - (t - s))
              ∙ sym (top_at n b (t - s) (omega arith))
              ∙ sym right
            where
              place : m - t ≡ k + (n - (t - s))
              place = omega arith

          outside : n < t - s → top R m (moved R k b) t ≡ moved R s (top R n b) t
          outside o = low (dec_lt m t) ∙ sym (top_out n b (t - s) o) ∙ sym right
            where
              low : Dec (m < t) → top R m (moved R k b) t ≡ 𝟘
              low (yes q) = top_out m (moved R k b) t q
              low (no q) = top_at m (moved R k b) t (omega arith) ∙ moved_out k b (m - t) (omega arith)

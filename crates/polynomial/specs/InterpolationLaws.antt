-- Laws of interpolation: N points whose differences can be cancelled, and any values there, belong to at most one polynomial
-- of N coefficients; where the differences have inverses, Newton's rule gives it.
--
--   quotient R a n f      f divided by y − a: n coefficients, for f of n + 1
--   division              f at z is (z − a) times the quotient at z, plus f at a
--   value_unique          the values at N regular points decide N coefficients
--   product_first, -next  the coefficients of a product, from those of the product of one point less
--   product_value         the value at z of a product is the product of the differences z − x i
--   newton-bound          newton has no more than N coefficients
--   newton-value          newton takes the values
--   newton_only           no other polynomial of N coefficients does
use Prim.Native.Nat.{ℕ, zero, suc, ◌≤◌, ◌<◌}
use Rattle.std.proofs.Common.{zero-add, suc-add, zero-lt-suc, not-suc-le-zero, le_trans, le_of_suc-le-suc, lt-suc_self, eq-or-lt_of_le, ◌∙◌, inl, inr}
use Rattle.std.proofs.Math.Nat.{suc-le-suc_iff, le-suc, le_of_suc-le}
use Rattle.std.specs.Prelude.{◌≡◌, ◌⊎◌}
use Rattle.std.proofs.Math.Path.{refl, sym, ap, ap₂, subst}
use Rattle.ring.specs.Ring.{Ring}
use Rattle.ring.specs.RingLaws.{zero-⊕, ⊗-zero, one-⊗, dist-⊗, sub-zero-eq, ⊕_left_comm, ⊗_left_comm}
use Rattle.ring.specs.Sum.{sum}
use Rattle.polynomial.specs.Convolution.{conv, one}
use Rattle.polynomial.specs.ConvolutionLaws.{one-conv}
use Rattle.polynomial.specs.Poly.{poly}
use Rattle.polynomial.specs.Value.{AtMost, value, Takes}
use Rattle.polynomial.specs.ValueLaws.{value-one, value_step, value-enough, value-⊕, value-neg, value-scale, takes-⊗, takes-𝟙}
use Rattle.polynomial.specs.Interpolation.{Regular, prod, linear, product, weight, newton, Invertible}

module _ (R : Ring) where
  open R use {C, ◌⊕◌, ◌⊗◌, ⊖◌, 𝟘, 𝟙, ⊕_assoc, ⊕_comm, ⊕-zero, ⊕-neg, ⊗_assoc, ⊗_comm, ⊗-one, ⊗_dist}

  unfoldable pub quotient : C → ℕ → (ℕ → C) → ℕ → C
  quotient a zero f k = 𝟘
  quotient a (suc n) f zero = value R (suc n) (λ i. f (suc i)) a
  quotient a (suc n) f (suc k) = quotient a n (λ i. f (suc i)) k

  -- a difference and what was taken off
  sub_back : (a z : C) → a ⊕ (z ⊕ (⊖ a)) ≡ z
  sub_back a z = ⊕_left_comm R a z (⊖ a) ∙ ap (λ (t : C). z ⊕ t) (⊕-neg a) ∙ ⊕-zero z

  value_none : (f : ℕ → C) (x : C) → value R zero f x ≡ 𝟘
  unfolding value sum
  value_none f x = refl

  pub division : (a : C) (n : ℕ) (f : ℕ → C) (z : C)
      → value R (suc n) f z ≡ value R (suc n) f a ⊕ ((z ⊕ (⊖ a)) ⊗ value R n (quotient a n f) z)
  unfolding quotient
  division a zero f z =
      value-one R f z
      ∙ sym (ap₂ (λ (s t : C). s ⊕ ((z ⊕ (⊖ a)) ⊗ t)) (value-one R f a) (value_none (quotient a zero f) z)
      ∙ ap (λ (t : C). f zero ⊕ t) (⊗-zero R (z ⊕ (⊖ a)))
      ∙ ⊕-zero (f zero))
  division a (suc n) f z =
      let f' : ℕ → C = λ i. f (suc i) in
      let u : C = value R (suc n) f' a in
      let q : C = value R n (quotient a n f') z in
      value_step R (suc n) f z
      ∙ ap (λ (t : C). f zero ⊕ (z ⊗ t)) (division a n f' z)
      ∙ regroup (f zero) u q
      ∙ ap₂ (λ (s t : C). s ⊕ ((z ⊕ (⊖ a)) ⊗ t)) (sym (value_step R (suc n) f a)) (sym (value_step R n (quotient a (suc n) f) z))
    where
      regroup : (c u q : C) → c ⊕ (z ⊗ (u ⊕ ((z ⊕ (⊖ a)) ⊗ q))) ≡ (c ⊕ (a ⊗ u)) ⊕ ((z ⊕ (⊖ a)) ⊗ (u ⊕ (z ⊗ q)))
      regroup c u q =
          let d : C = z ⊕ (⊖ a) in
          ap (λ (t : C). c ⊕ t) (⊗_dist z u (d ⊗ q)
          ∙ ap₂ (λ (s t : C). s ⊕ t) (ap (λ (t : C). t ⊗ u) (sym (sub_back a z)) ∙ dist-⊗ R a d u) (⊗_left_comm R z d q)
          ∙ ⊕_assoc (a ⊗ u) (d ⊗ u) (d ⊗ (z ⊗ q))
          ∙ ap (λ (t : C). (a ⊗ u) ⊕ t) (sym (⊗_dist d u (z ⊗ q))))
          ∙ sym (⊕_assoc c (a ⊗ u) (d ⊗ (u ⊕ (z ⊗ q))))

  -- f with value 𝟘 at a and quotient 𝟘 is 𝟘
  quotient-zero : (a : C) (n : ℕ) (f : ℕ → C) → value R (suc n) f a ≡ 𝟘 → ((k : ℕ) → k < n → quotient a n f k ≡ 𝟘)
      → (k : ℕ) → k < suc n → f k ≡ 𝟘
  unfolding quotient
  quotient-zero a zero f e h zero b = sym (value-one R f a) ∙ e
  quotient-zero a zero f e h (suc k) b = absurd (not-suc-le-zero (le_of_suc-le-suc b))
  quotient-zero a (suc n) f e h zero b =
      sym (⊕-zero (f zero))
      ∙ ap (λ (t : C). f zero ⊕ t) (sym (ap (λ (t : C). a ⊗ t) (h zero (zero-lt-suc n)) ∙ ⊗-zero R a))
      ∙ sym (value_step R (suc n) f a)
      ∙ e
  quotient-zero a (suc n) f e h (suc k) b =
      quotient-zero a n (λ i. f (suc i)) (h zero (zero-lt-suc n)) (λ l c. h (suc l) (suc-le-suc_iff.1 c)) k (suc-le-suc_iff.0 b)

  pub value_unique-zero : (N : ℕ) (x : ℕ → C) → Regular R N x → (f : ℕ → C)
      → ((i : ℕ) → i < N → value R N f (x i) ≡ 𝟘) → (k : ℕ) → k < N → f k ≡ 𝟘
  value_unique-zero zero x r f h k b = absurd (not-suc-le-zero b)
  value_unique-zero (suc n) x r f h k b =
      quotient-zero (x zero) n f (h zero (zero-lt-suc n)) (value_unique-zero n (λ i. x (suc i)) regular (quotient (x zero) n f) roots) k b
    where
      regular : Regular R n (λ i. x (suc i))
      regular i j b c = r (suc i) (suc j) (suc-le-suc_iff.1 b) (suc-le-suc_iff.1 c)

      roots : (i : ℕ) → i < n → value R n (quotient (x zero) n f) (x (suc i)) ≡ 𝟘
      roots i b =
          let q : C = (x (suc i) ⊕ (⊖ x zero)) ⊗ value R n (quotient (x zero) n f) (x (suc i)) in
          r zero (suc i) (zero-lt-suc i) (suc-le-suc_iff.1 b) (value R n (quotient (x zero) n f) (x (suc i)))
          (sym (zero-⊕ R q)
          ∙ ap (λ (t : C). t ⊕ q) (sym (h zero (zero-lt-suc n)))
          ∙ sym (division (x zero) n f (x (suc i)))
          ∙ h (suc i) (suc-le-suc_iff.1 b))

  pub value_unique : (N : ℕ) (x : ℕ → C) → Regular R N x → (f g : ℕ → C)
      → ((i : ℕ) → i < N → value R N f (x i) ≡ value R N g (x i)) → (k : ℕ) → k < N → f k ≡ g k
  value_unique N x r f g h k b = sub-zero-eq R (f k) (g k) (value_unique-zero N x r (λ i. f i ⊕ (⊖ g i)) same k b)
    where
      same : (i : ℕ) → i < N → value R N (λ l. f l ⊕ (⊖ g l)) (x i) ≡ 𝟘
      same i c =
          value-⊕ R N f (λ l. ⊖ g l) (x i)
          ∙ ap₂ (λ (s t : C). s ⊕ t) (h i c) (value-neg R N g (x i))
          ∙ ⊕-neg (value R N g (x i))

  pub prod-last : (n : ℕ) (f : ℕ → C) → prod R (suc n) f ≡ f n ⊗ prod R n f
  unfolding prod
  prod-last zero f = refl
  prod-last (suc n) f =
      ap (λ (t : C). f zero ⊗ t) (prod-last n (λ i. f (suc i)))
      ∙ ⊗_left_comm R (f zero) (f (suc n)) (prod R n (λ i. f (suc i)))

  -- what one factor takes to 𝟘, the product does
  pub prod-zero : (n : ℕ) (f : ℕ → C) (c : C) (i : ℕ) → i < n → f i ⊗ c ≡ 𝟘 → prod R n f ⊗ c ≡ 𝟘
  unfolding prod
  prod-zero zero f c i b e = absurd (not-suc-le-zero b)
  prod-zero (suc n) f c zero b e =
      let p : C = prod R n (λ i. f (suc i)) in
      ap (λ (t : C). t ⊗ c) (⊗_comm (f zero) p) ∙ ⊗_assoc p (f zero) c ∙ ap (λ (t : C). p ⊗ t) e ∙ ⊗-zero R p
  prod-zero (suc n) f c (suc i) b e =
      ⊗_assoc (f zero) (prod R n (λ l. f (suc l))) c
      ∙ ap (λ (t : C). f zero ⊗ t) (prod-zero n (λ l. f (suc l)) c i (suc-le-suc_iff.0 b) e)
      ∙ ⊗-zero R (f zero)

  pub takes-linear : (z a : C) → Takes R z (suc zero) (linear R a) (z ⊕ (⊖ a))
  unfolding linear one
  takes-linear z a = record { bound = after; value = at }
    where
      after : AtMost R (suc zero) (linear R a)
      after zero b = absurd (not-suc-le-zero b)
      after (suc zero) b = absurd (not-suc-le-zero (le_of_suc-le-suc b))
      after (suc (suc k)) b = refl

      at : value R (suc (suc zero)) (linear R a) z ≡ z ⊕ (⊖ a)
      at =
          value_step R (suc zero) (linear R a) z
          ∙ ap (λ (t : C). (⊖ a) ⊕ (z ⊗ t)) (value-one R (one R) z)
          ∙ ap (λ (t : C). (⊖ a) ⊕ t) (⊗-one z)
          ∙ ⊕_comm (⊖ a) z

module _ (R : Ring) where
  open R use {C, ◌⊕◌, ◌⊗◌, ⊖◌, 𝟘, 𝟙, ⊕-zero, ⊕-neg, ⊗_assoc, ⊗_comm, ⊗-one}

  -- the coefficients of the product R, from those of the product R of one point less
  pub product_none : (x : ℕ → C) → product R zero x ≡ one R
  unfolding product prod
  product_none x = refl

  pub product_first : (N : ℕ) (x : ℕ → C) → product R (suc N) x zero ≡ (⊖ x N) ⊗ product R N x zero
  unfolding product conv linear
  product_first N x = ap (λ (f : ℕ → C). f zero) (prod-last (poly R) N (λ i. linear R (x i)))

  pub product-next : (N : ℕ) (x : ℕ → C) (k : ℕ) → product R (suc N) x (suc k) ≡ ((⊖ x N) ⊗ product R N x (suc k)) ⊕ product R N x k
  unfolding product conv linear
  product-next N x k =
      ap (λ (f : ℕ → C). f (suc k)) (prod-last (poly R) N (λ i. linear R (x i)))
      ∙ ap (λ (t : C). ((⊖ x N) ⊗ product R N x (suc k)) ⊕ t) (one-conv R (product R N x) k)

  pub takes-product : (z : C) (N : ℕ) (x : ℕ → C) → Takes R z N (product R N x) (prod R N (λ i. z ⊕ (⊖ x i)))
  unfolding product prod
  takes-product z zero x = takes-𝟙 R z zero
  takes-product z (suc N) x =
      let x' : ℕ → C = λ i. x (suc i) in
      subst (λ (d : ℕ). Takes R z d (product R (suc N) x) (prod R (suc N) (λ i. z ⊕ (⊖ x i)))) (suc-add zero N ∙ ap suc (zero-add N))
      (takes-⊗ R z (suc zero) N (linear R (x zero)) (product R N x') (z ⊕ (⊖ x zero)) (prod R N (λ i. z ⊕ (⊖ x' i)))
      (takes-linear R z (x zero)) (takes-product z N x'))

  pub product-bound : (N : ℕ) (x : ℕ → C) → AtMost R N (product R N x)
  product-bound N x = (takes-product 𝟘 N x).bound

  pub product_value : (N : ℕ) (x : ℕ → C) (z : C) → value R (suc N) (product R N x) z ≡ prod R N (λ i. z ⊕ (⊖ x i))
  product_value N x z = (takes-product z N x).value

  pub product_root : (N : ℕ) (x : ℕ → C) (i : ℕ) → i < N → value R (suc N) (product R N x) (x i) ≡ 𝟘
  product_root N x i b =
      product_value N x (x i)
      ∙ sym (⊗-one (prod R N (λ l. x i ⊕ (⊖ x l))))
      ∙ prod-zero R N (λ l. x i ⊕ (⊖ x l)) 𝟙 i b (⊗-one (x i ⊕ (⊖ x i)) ∙ ⊕-neg (x i))

  module _ (inv : C → C) (x v : ℕ → C) where
    pub newton-bound : (N k : ℕ) → N ≤ k → newton R inv x v N k ≡ 𝟘
    unfolding newton
    newton-bound zero k b = refl
    newton-bound (suc N) k b =
        let c : C = weight R inv x v N (newton R inv x v N) in
        ap₂ (λ (s t : C). s ⊕ (c ⊗ t)) (newton-bound N k (le_of_suc-le b)) (product-bound N x k b)
        ∙ ap (λ (t : C). 𝟘 ⊕ t) (⊗-zero R c)
        ∙ ⊕-zero 𝟘

    -- the value anywhere of one step more
    newton_step : (N : ℕ) (z : C)
        → value R (suc N) (newton R inv x v (suc N)) z ≡ value R N (newton R inv x v N) z ⊕ (weight R inv x v N (newton R inv x v N) ⊗ value R (suc N) (product R N x) z)
    unfolding newton
    newton_step N z =
        let c : C = weight R inv x v N (newton R inv x v N) in
        value-⊕ R (suc N) (newton R inv x v N) (λ k. c ⊗ product R N x k) z
        ∙ ap₂ (λ (s t : C). s ⊕ t) (value-enough R N (suc N) (newton R inv x v N) z (le-suc N) (newton-bound N)) (value-scale R (suc N) c (product R N x) z)

    -- at the new point the step makes up for what was missing
    newton_new : (N : ℕ) (u z : C) → z ⊗ inv z ≡ 𝟙 → u ⊕ (((v N ⊕ (⊖ u)) ⊗ inv z) ⊗ z) ≡ v N
    newton_new N u z e =
        ap (λ (t : C). u ⊕ t) (⊗_assoc (v N ⊕ (⊖ u)) (inv z) z
        ∙ ap (λ (t : C). (v N ⊕ (⊖ u)) ⊗ t) (⊗_comm (inv z) z ∙ e)
        ∙ ⊗-one (v N ⊕ (⊖ u)))
        ∙ sub_back R u (v N)

    pub newton-value : (N : ℕ) → Invertible R inv x v N → (i : ℕ) → i < N → value R N (newton R inv x v N) (x i) ≡ v i
    newton-value zero h i b = absurd (not-suc-le-zero b)
    newton-value (suc N) h i b =
        newton_step N (x i) ∙ at i (eq-or-lt_of_le (le_of_suc-le-suc b)) (newton-value N (λ n c. h n (le_trans c (le-suc N))) i)
      where
        at : (i : ℕ) → (i ≡ N) ⊎ (i < N) → (i < N → value R N (newton R inv x v N) (x i) ≡ v i)
            → value R N (newton R inv x v N) (x i) ⊕ (weight R inv x v N (newton R inv x v N) ⊗ value R (suc N) (product R N x) (x i)) ≡ v i
        at i (inl e) old =
            subst (λ (l : ℕ). value R N (newton R inv x v N) (x l) ⊕ (weight R inv x v N (newton R inv x v N) ⊗ value R (suc N) (product R N x) (x l)) ≡ v l) (sym e)
            (unfold weight in newton_new N (value R N (newton R inv x v N) (x N)) (value R (suc N) (product R N x) (x N)) (h N (lt-suc_self N)))
        at i (inr c) old =
            ap₂ (λ (s t : C). s ⊕ (weight R inv x v N (newton R inv x v N) ⊗ t)) (old c) (product_root N x i c)
            ∙ ap (λ (t : C). v i ⊕ t) (⊗-zero R (weight R inv x v N (newton R inv x v N)))
            ∙ ⊕-zero (v i)

    -- inverses of the products let the differences be cancelled
    pub invertible_regular : (N : ℕ) → Invertible R inv x v N → Regular R N x
    invertible_regular N h i j b c d e =
        let z : C = value R (suc j) (product R j x) (x j) in
        sym (one-⊗ R d)
        ∙ ap (λ (t : C). t ⊗ d) (sym (h j c) ∙ ⊗_comm z (inv z))
        ∙ ⊗_assoc (inv z) z d
        ∙ ap (λ (t : C). inv z ⊗ t) (ap (λ (t : C). t ⊗ d) (product_value j x (x j)) ∙ prod-zero R j (λ l. x j ⊕ (⊖ x l)) d i b e)
        ∙ ⊗-zero R (inv z)

    pub newton_only : (N : ℕ) → Invertible R inv x v N → (f : ℕ → C)
        → ((i : ℕ) → i < N → value R N f (x i) ≡ v i) → (k : ℕ) → k < N → f k ≡ newton R inv x v N k
    newton_only N h f e =
        value_unique R N x (invertible_regular N h) f (newton R inv x v N) (λ i b. e i b ∙ sym (newton-value N h i b))

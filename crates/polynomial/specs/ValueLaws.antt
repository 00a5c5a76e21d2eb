-- Laws of values. The relation "degree at most d, value v at x" is one that sums, products and determinants keep: from the
-- entries of a matrix of polynomials it gives the degree bound of the determinant and its value at once.
--
--   value_step         Horner's rule: the first coefficient taken off
--   value-last         the last coefficient taken off
--   value_more         a polynomial of degree at most d has one value, however many coefficients after d are counted
--   value-⊕ ..         the value of a sum, a negative, a multiple, a product
--   takes-value        a polynomial takes its value
--   takes_unique       it takes one value only
--   takes-⊕ ..         the value and the bound of a sum, a negative, a product; degrees add in a product
--   takes-det          the determinant takes the determinant of the values; the degree bounds of the rows add
use Prim.Native.Nat.{ℕ, zero, suc, ◌+◌, ◌≤◌, ◌<◌}
use Rattle.std.proofs.Common.{zero-add, zero-lt-suc, le-add_left, lt_of_le_of_lt, not-suc-le-zero, le_of_suc-le-suc, lt_irrefl, arith, ◌∙◌}
use Rattle.std.proofs.Math.Nat.{suc-add, suc-le-suc_iff}
use Rattle.std.specs.Prelude.{◌≡◌}
use Rattle.std.proofs.Math.Path.{refl, sym, ap, ap₂}
use Rattle.ring.specs.Ring.{Ring, pow}
use Rattle.ring.specs.RingLaws.{zero-⊗, ⊗-zero, dist-⊗, neg-⊗, neg-zero, ⊗_left_comm}
use Rattle.ring.specs.Sum.{sum, alt}
use Rattle.ring.specs.SumLaws.{sum_ext, sum-zero, sum-⊕, sum-neg, scale-sum, sum-last, sum_more}
use Rattle.ring.specs.Det.{det, minor, skip}
use Rattle.ring.specs.DetLaws.{skip-lt}
use Rattle.polynomial.specs.Convolution.{conv, one, plus, minus, nil}
use Rattle.polynomial.specs.ConvolutionLaws.{conv-zero}
use Rattle.polynomial.specs.Poly.{poly}
use Rattle.polynomial.specs.Value.{AtMost, value, Takes, total}

module _ (R : Ring) where
  open R use {C, ◌⊕◌, ◌⊗◌, ⊖◌, 𝟘, 𝟙, ⊕_assoc, ⊕-zero, ⊗_assoc, ⊗-one, ⊗_dist}

  pub value_ext : (N : ℕ) (f g : ℕ → C) (x : C) → ((i : ℕ) → i < N → f i ≡ g i) → value R N f x ≡ value R N g x
  unfolding value
  value_ext N f g x h =
      sum_ext R N (λ i. f i ⊗ pow R x i) (λ i. g i ⊗ pow R x i) (λ i b. ap (λ (t : C). t ⊗ pow R x i) (h i b))

  pub value-zero : (N : ℕ) (f : ℕ → C) (x : C) → ((i : ℕ) → i < N → f i ≡ 𝟘) → value R N f x ≡ 𝟘
  unfolding value
  value-zero N f x h =
      sum-zero R N (λ i. f i ⊗ pow R x i) (λ i b. ap (λ (t : C). t ⊗ pow R x i) (h i b) ∙ zero-⊗ R (pow R x i))

  pub value_step : (N : ℕ) (f : ℕ → C) (x : C) → value R (suc N) f x ≡ f zero ⊕ (x ⊗ value R N (λ i. f (suc i)) x)
  unfolding value sum pow
  value_step N f x =
      ap₂ (λ (s t : C). s ⊕ t)
      (⊗-one (f zero))
      (sum_ext R N (λ i. f (suc i) ⊗ (x ⊗ pow R x i)) (λ i. x ⊗ (f (suc i) ⊗ pow R x i)) (λ i b. ⊗_left_comm R (f (suc i)) x (pow R x i))
      ∙ sym (scale-sum R N x (λ i. f (suc i) ⊗ pow R x i)))

  pub value-one : (f : ℕ → C) (x : C) → value R (suc zero) f x ≡ f zero
  unfolding value sum pow
  value-one f x = ⊕-zero (f zero ⊗ 𝟙) ∙ ⊗-one (f zero)

  pub value-last : (N : ℕ) (f : ℕ → C) (x : C) → value R (suc N) f x ≡ value R N f x ⊕ (f N ⊗ pow R x N)
  unfolding value
  value-last N f x = sum-last R N (λ i. f i ⊗ pow R x i)

  -- with no coefficient that is not 𝟘 from M on, the first M give the value R
  pub value-enough : (M N : ℕ) (f : ℕ → C) (x : C) → M ≤ N → ((k : ℕ) → M ≤ k → f k ≡ 𝟘) → value R N f x ≡ value R M f x
  unfolding value
  value-enough M N f x b h =
      sum_more R M N (λ i. f i ⊗ pow R x i) b (λ i c. ap (λ (t : C). t ⊗ pow R x i) (h i c) ∙ zero-⊗ R (pow R x i))

  pub value_more : (d e : ℕ) (f : ℕ → C) (x : C) → AtMost R d f → d ≤ e → value R (suc e) f x ≡ value R (suc d) f x
  value_more d e f x h b = value-enough (suc d) (suc e) f x (suc-le-suc_iff.1 b) h

  pub value-⊕ : (N : ℕ) (f g : ℕ → C) (x : C) → value R N (λ i. f i ⊕ g i) x ≡ value R N f x ⊕ value R N g x
  unfolding value
  value-⊕ N f g x =
      sum_ext R N (λ i. (f i ⊕ g i) ⊗ pow R x i) (λ i. (f i ⊗ pow R x i) ⊕ (g i ⊗ pow R x i)) (λ i b. dist-⊗ R (f i) (g i) (pow R x i))
      ∙ sum-⊕ R N (λ i. f i ⊗ pow R x i) (λ i. g i ⊗ pow R x i)

  pub value-neg : (N : ℕ) (f : ℕ → C) (x : C) → value R N (λ i. ⊖ f i) x ≡ ⊖ value R N f x
  unfolding value
  value-neg N f x =
      sum_ext R N (λ i. (⊖ f i) ⊗ pow R x i) (λ i. ⊖ (f i ⊗ pow R x i)) (λ i b. neg-⊗ R (f i) (pow R x i))
      ∙ sum-neg R N (λ i. f i ⊗ pow R x i)

  pub value-scale : (N : ℕ) (c : C) (f : ℕ → C) (x : C) → value R N (λ i. c ⊗ f i) x ≡ c ⊗ value R N f x
  unfolding value
  value-scale N c f x =
      sum_ext R N (λ i. (c ⊗ f i) ⊗ pow R x i) (λ i. c ⊗ (f i ⊗ pow R x i)) (λ i b. ⊗_assoc c (f i) (pow R x i))
      ∙ sym (scale-sum R N c (λ i. f i ⊗ pow R x i))

  -- a constant times g
  pub conv_constant : (f g : ℕ → C) → AtMost R zero f → (k : ℕ) → conv R f g k ≡ f zero ⊗ g k
  unfolding conv
  conv_constant f g h zero = refl
  conv_constant f g h (suc k) =
      ap (λ (t : C). (f zero ⊗ g (suc k)) ⊕ t) (conv-zero R (λ i. f (suc i)) g (λ i. h (suc i) (zero-lt-suc i)) k)
      ∙ ⊕-zero (f zero ⊗ g (suc k))

  -- degrees add
  pub atmost-⊗ : (d e : ℕ) (f g : ℕ → C) → AtMost R d f → AtMost R e g → AtMost R (d + e) (conv R f g)
  unfolding conv
  atmost-⊗ zero e f g h l k b =
      conv_constant f g h k ∙ ap (λ (t : C). f zero ⊗ t) (l k (lt_of_le_of_lt (le-add_left e zero) b)) ∙ ⊗-zero R (f zero)
  atmost-⊗ (suc d) e f g h l zero b = absurd (not-suc-le-zero b)
  atmost-⊗ (suc d) e f g h l (suc k) b =
      ap₂ (λ (s t : C). (f zero ⊗ s) ⊕ t)
      (l (suc k) (lt_of_le_of_lt (le-add_left e (suc d)) b))
      (atmost-⊗ d e (λ i. f (suc i)) g (λ i c. h (suc i) (suc-le-suc_iff.1 c)) l k (le_of_suc-le-suc (rw suc-add at b)))
      ∙ ⊕-zero (f zero ⊗ 𝟘)
      ∙ ⊗-zero R (f zero)

  -- the first coefficient of one factor taken off
  pub value-conv : (N : ℕ) (f g : ℕ → C) (x : C)
      → value R (suc N) (conv R f g) x ≡ (f zero ⊗ value R (suc N) g x) ⊕ (x ⊗ value R N (conv R (λ i. f (suc i)) g) x)
  unfolding conv
  value-conv N f g x =
      let g' : ℕ → C = λ i. g (suc i) in
      let rest : ℕ → C = conv R (λ i. f (suc i)) g in
      value_step N (conv R f g) x
      ∙ ap (λ (t : C). (f zero ⊗ g zero) ⊕ (x ⊗ t))
      (value-⊕ N (λ i. f zero ⊗ g' i) rest x ∙ ap (λ (t : C). t ⊕ value R N rest x) (value-scale N (f zero) g' x))
      ∙ regroup (f zero) (g zero) x (value R N g' x) (value R N rest x)
      ∙ ap (λ (t : C). (f zero ⊗ t) ⊕ (x ⊗ value R N rest x)) (sym (value_step N g x))
    where
      regroup : (a b y u v : C) → (a ⊗ b) ⊕ (y ⊗ ((a ⊗ u) ⊕ v)) ≡ (a ⊗ (b ⊕ (y ⊗ u))) ⊕ (y ⊗ v)
      regroup a b y u v = simp (⊗_dist, ⊕_assoc, ⊗_left_comm R)

  -- the value R of a product is the product of the values
  pub value-⊗ : (d e : ℕ) (f g : ℕ → C) (x : C) → AtMost R d f → AtMost R e g
      → value R (suc (d + e)) (conv R f g) x ≡ value R (suc d) f x ⊗ value R (suc e) g x
  value-⊗ zero e f g x h l =
      rw zero-add (value_ext (suc e) (conv R f g) (λ i. f zero ⊗ g i) x (λ i b. conv_constant f g h i)
      ∙ value-scale (suc e) (f zero) g x
      ∙ ap (λ (t : C). t ⊗ value R (suc e) g x) (sym (value-one f x)))
  value-⊗ (suc d) e f g x h l =
      let f' : ℕ → C = λ i. f (suc i) in
      let v : C = value R (suc e) g x in
      value-conv (suc d + e) f g x
      ∙ ap₂ (λ (s t : C). (f zero ⊗ s) ⊕ (x ⊗ t))
      (value_more e (suc d + e) g x l (le-add_left e (suc d)))
      (ap (λ (n : ℕ). value R n (conv R f' g) x) (suc-add d e) ∙ value-⊗ d e f' g x (λ i b. h (suc i) (suc-le-suc_iff.1 b)) l)
      ∙ ap (λ (t : C). (f zero ⊗ v) ⊕ t) (sym (⊗_assoc x (value R (suc d) f' x) v))
      ∙ sym (dist-⊗ R (f zero) (x ⊗ value R (suc d) f' x) v)
      ∙ ap (λ (t : C). t ⊗ v) (sym (value_step (suc d) f x))

  pub takes-value : (x : C) (d : ℕ) (f : ℕ → C) → AtMost R d f → Takes R x d f (value R (suc d) f x)
  takes-value x d f h = record { bound = h; value = refl }

  pub takes_unique : (x : C) (d : ℕ) (f : ℕ → C) (u v : C) → Takes R x d f u → Takes R x d f v → u ≡ v
  takes_unique x d f u v s t = sym s.value ∙ t.value

  pub takes_weaken : (x : C) (d e : ℕ) (f : ℕ → C) (v : C) → d ≤ e → Takes R x d f v → Takes R x e f v
  takes_weaken x d e f v b t = record {
    bound = λ k c. t.bound k (lt_of_le_of_lt b c);
    value = value_more d e f x t.bound b ∙ t.value;
  }

  pub takes-𝟘 : (x : C) (d : ℕ) → Takes R x d (Ring.𝟘 (poly R)) 𝟘
  unfolding nil
  takes-𝟘 x d = record { bound = λ k c. refl; value = value-zero (suc d) (nil R) x (λ i b. refl) }

  pub takes-𝟙 : (x : C) (d : ℕ) → Takes R x d (Ring.𝟙 (poly R)) 𝟙
  unfolding one
  takes-𝟙 x d = takes_weaken x zero d (one R) 𝟙 (omega arith) (record { bound = after; value = value-one (one R) x })
    where
      after : AtMost R zero (one R)
      after zero b = absurd (lt_irrefl zero b)
      after (suc k) b = refl

  pub takes-⊕ : (x : C) (d : ℕ) (f g : ℕ → C) (u v : C) → Takes R x d f u → Takes R x d g v → Takes R x d (Ring.◌⊕◌ (poly R) f g) (u ⊕ v)
  unfolding plus
  takes-⊕ x d f g u v s t = record {
    bound = λ k c. ap₂ (λ (a b : C). a ⊕ b) (s.bound k c) (t.bound k c) ∙ ⊕-zero 𝟘;
    value = value-⊕ (suc d) f g x ∙ ap₂ (λ (a b : C). a ⊕ b) s.value t.value;
  }

  pub takes-⊖ : (x : C) (d : ℕ) (f : ℕ → C) (v : C) → Takes R x d f v → Takes R x d (Ring.⊖◌ (poly R) f) (⊖ v)
  unfolding minus
  takes-⊖ x d f v t = record {
    bound = λ k c. ap (λ (a : C). ⊖ a) (t.bound k c) ∙ neg-zero R;
    value = value-neg (suc d) f x ∙ ap (λ (a : C). ⊖ a) t.value;
  }

  pub takes-⊗ : (x : C) (d e : ℕ) (f g : ℕ → C) (u v : C) → Takes R x d f u → Takes R x e g v → Takes R x (d + e) (Ring.◌⊗◌ (poly R) f g) (u ⊗ v)
  takes-⊗ x d e f g u v s t = record {
    bound = atmost-⊗ d e f g s.bound t.bound;
    value = value-⊗ d e f g x s.bound t.bound ∙ ap₂ (λ (a b : C). a ⊗ b) s.value t.value;
  }

  pub takes-alt : (x : C) (d n : ℕ) (f : ℕ → ℕ → C) (v : ℕ → C)
      → ((j : ℕ) → j < n → Takes R x d (f j) (v j)) → Takes R x d (alt (poly R) n f) (alt R n v)
  unfolding alt
  takes-alt x d zero f v h = takes-𝟘 x d
  takes-alt x d (suc n) f v h =
      let f' : ℕ → ℕ → C = λ j. f (suc j) in
      let v' : ℕ → C = λ j. v (suc j) in
      let rest : Takes R x d (alt (poly R) n f') (alt R n v') = takes-alt x d n f' v' (λ j b. h (suc j) (suc-le-suc_iff.1 b)) in
      takes-⊕ x d (f zero) (minus R (alt (poly R) n f')) (v zero) (⊖ alt R n v')
      (h zero (zero-lt-suc n))
      (takes-⊖ x d (alt (poly R) n f') (alt R n v') rest)

  pub takes-det : (x : C) (n : ℕ) (A : ℕ → ℕ → ℕ → C) (B : ℕ → ℕ → C) (e : ℕ → ℕ)
      → ((i k : ℕ) → i < n → k < n → Takes R x (e i) (A i k) (B i k))
      → Takes R x (total n e) (det (poly R) n A) (det R n B)
  unfolding det total
  takes-det x zero A B e h = takes-𝟙 x zero
  takes-det x (suc n) A B e h =
      takes-alt x (total (suc n) e) (suc n)
      (λ j. Ring.◌⊗◌ (poly R) (A zero j) (det (poly R) n (minor (poly R) A j)))
      (λ j. B zero j ⊗ det R n (minor R B j))
      (λ j b. takes-⊗ x (e zero) (total n (λ i. e (suc i))) (A zero j) (det (poly R) n (minor (poly R) A j)) (B zero j) (det R n (minor R B j))
      (h zero j (zero-lt-suc n) b)
      (takes-det x n (minor (poly R) A j) (minor R B j) (λ i. e (suc i))
      (λ i k c l. h (suc i) (skip j k) (suc-le-suc_iff.1 c) (skip-lt j k n l))))

-- Newton's rule on lists: what stands in the two lists after n points.
--
--   Reached n l t          l has the coefficients of the polynomial through the first n points, and t those of the product
--                          of y - x i, i < n
--   reached_first          before the first point
--   reached-nonzero        the product is not 0 at the next point
--   reached-below          its coefficients are below p
--   reached-next           one point more
--   reached-last           all points
use Prim.Native.Nat.{ℕ, zero, suc, ◌+◌, ◌*◌, ◌-◌, ◌%◌, ◌≤◌, ◌<◌}
use native.Mathlib.Decide.{dec_lt}
use native.Mathlib.Nat.{mod-lt, le_of_lt, le-suc, pos_of_ne-zero}
use native.Mathlib.Numerals.{add-one}
use native.Mathlib.Omega.{arith}
use mathlib.Core.List.{List, ◌∷◌, ◌++◌}
use lib.ListN.{take, drop}
use mathlib.Core.Path.{◌≡◌, refl, sym, ap, ap₂, ◌∙◌}
use lib.ListN.{length, get_or, set, replicate, length-set}
use lib.Seq.{get_or-set_same, get_or-set_other}
use Rattle.std.proofs.lemmas.List.{length-replicate, get_or-replicate, get_or-take}
use Rattle.std.proofs.Common.{length-take, length-take-le}
use Rattle.ring.specs.RingLaws.{zero-⊕, zero-⊗, neg-⊗}
use Rattle.residue.specs.Prime.{Prime}
use Rattle.residue.specs.Computed.{difference-res, product-res, mul-sub-res, inverse-res}
use Rattle.residue.specs.Residue.{residues, res, val}
use Rattle.residue.specs.ResidueLaws.{val_inj, val-lt, val-𝟘, val-𝟙, res-val, res-zero, res-mod, res-+, res-*}
use Rattle.residue.specs.Inverse.{inverse, inv}
use Rattle.polynomial.specs.Convolution.{one}
use Rattle.polynomial.specs.Value.{value}
use Rattle.polynomial.specs.ValueLaws.{value_ext, value-enough}
use Rattle.polynomial.specs.Interpolation.{newton, weight, product}
use Rattle.polynomial.specs.InterpolationLaws.{newton-bound, product_none, product_first, product-next, product-bound}
use Rattle.scope.specs.Point.{tabulate}
use Rattle.scope.specs.Recovery.{Different, different_invertible}
use Rattle.points.specs.Step.{value_of, weight_of, plus_multiple, times_linear}
use Rattle.points.proofs.Stores.{list_of, front_new, front_old, front_length}
use Rattle.points.proofs.Horner.{value_front}
use Rattle.rows.proofs.Value.{val_is}

module _ (p : ℕ) (count : ℕ) (xs vs : List ℕ) where
  open residues p use {C, ◌⊕◌, ◌⊗◌, ⊖◌, 𝟘, 𝟙, ⊕_comm}

  abbrev x : ℕ → C
  x i = res p (get_or xs i 0)

  abbrev v : ℕ → C
  v i = res p (get_or vs i 0)

  abbrev coefficient : ℕ → ℕ → ℕ
  coefficient n k = val p (newton (residues p) (inv p) x v n k)

  pub record Reached (n : ℕ) (l t : List ℕ) : Type 0 where
    pub within : n ≤ count
    pub long_l : length l ≡ count
    pub long_t : length t ≡ 514
    pub coefficients : (k : ℕ) → k < count → get_or l k 0 ≡ coefficient n k
    pub products : (k : ℕ) → k < 514 → get_or t k 0 ≡ val p (product (residues p) n x k)

  module _ (two : 2 ≤ p) where
    pos : 0 < p
    pos = omega arith

    -- the start of the product
    one-val : (t : List ℕ) → t ≡ set (replicate 514 0) 0 1 → (k : ℕ) → k < 514 → get_or t k 0 ≡ val p (one (residues p) k)
    unfolding one
    one-val t e k b = ap (λ (r : List ℕ). get_or r k 0) e ∙ go k b
      where
        go : (k : ℕ) → k < 514 → get_or (set (replicate 514 0) 0 1) k 0 ≡ val p (one (residues p) k)
        go zero b = get_or-set_same (replicate 514 0) 0 1 0 (omega (arith, length-replicate {A = ℕ} 514 0)) ∙ sym (val-𝟙 p two)
        go (suc k) b =
            get_or-set_other (replicate 514 0) 0 (suc k) 1 0 (λ q. omega arith)
            ∙ get_or-replicate {A = ℕ} 514 (suc k) 0 0 b ∙ sym (val-𝟘 p)

    pub reached_first : {l t : List ℕ} → l ≡ replicate count 0 → t ≡ set (replicate 514 0) 0 1 → Reached 0 l t
    unfolding newton
    reached_first {l} {t} el et =
        record {
          within = omega arith;
          long_l = ap length el ∙ length-replicate {A = ℕ} count 0;
          long_t = ap length et ∙ length-set {A = ℕ} (replicate 514 0) 0 1 ∙ length-replicate {A = ℕ} 514 0;
          coefficients = λ k b. ap (λ (r : List ℕ). get_or r k 0) el ∙ get_or-replicate {A = ℕ} count k 0 0 b ∙ sym (val-𝟘 p);
          products = λ k b. one-val t et k b ∙ ap (λ (f : ℕ → C). val p (f k)) (sym (product_none (residues p) x));
        }

    pub reached-below : {n : ℕ} {l t : List ℕ} → Reached n l t → (k : ℕ) → k < 514 → get_or t k 0 < p
    reached-below {n = n} h k b = omega (arith, h.products k b, val-lt p pos (product (residues p) n x k))

    pub reached-small : {n : ℕ} {l t : List ℕ} → Reached n l t → (m k : ℕ) → k < length (take m t) → get_or (take m t) k 0 < p
    reached-small {t = t} h m k b =
        let small : k < m = omega (arith, length-take m t) in
        omega (arith, get_or-take m t k 0 small, reached-below h k (omega (arith, length-take m t, h.long_t)))

    -- a list of residues' numbers has the value of those residues
    value_same : (n : ℕ) (l : List ℕ) (f : ℕ → C) (a : ℕ) → ((k : ℕ) → k < n → get_or l k 0 ≡ val p (f k))
        → value_of p n l a ≡ val p (value (residues p) n f (res p a))
    unfolding value_of
    value_same n l f a h =
        ap (val p) (value_ext (residues p) n (λ j. res p (get_or l j 0)) f (res p a) (λ k b. ap (res p) (h k b) ∙ res-val p (f k)))

    module _ {n : ℕ} {l t : List ℕ} (h : Reached n l t) (more : n < count) (few : count ≤ 513) where
      abbrev f : ℕ → C
      f = newton (residues p) (inv p) x v n

      abbrev g : ℕ → C
      g = product (residues p) n x

      at_list : value_of p (suc n) l (get_or xs n 0) ≡ val p (value (residues p) n f (x n))
      at_list =
          value_same (suc n) l f (get_or xs n 0) (λ k b. h.coefficients k (omega arith))
          ∙ ap (val p) (value-enough (residues p) n (suc n) f (x n) (le-suc n) (newton-bound (residues p) (inv p) x v n))

      at-product : value_of p (suc n) t (get_or xs n 0) ≡ val p (value (residues p) (suc n) g (x n))
      at-product = value_same (suc n) t g (get_or xs n 0) (λ k b. h.products k (omega arith))

      pub reached-nonzero : Prime p → Different p count (λ i. get_or xs i 0) → 0 < value_of p (suc n) t (get_or xs n 0)
      reached-nonzero prime different = pos_of_ne-zero (λ e. no-inverse (val_inj p z 𝟘 (sym at-product ∙ e ∙ sym (val-𝟘 p))))
        where
          z : C
          z = value (residues p) (suc n) g (x n)

          no-inverse : z ≡ 𝟘 → ⊥
          no-inverse e =
              let clash : ◌≡◌ {A = ℕ} 0 1 =
              sym (val-𝟘 p)
              ∙ ap (val p) (sym (zero-⊗ (residues p) (inv p z)) ∙ ap (λ (s : C). s ⊗ inv p z) (sym e)
              ∙ different_invertible p two prime count (λ i. get_or xs i 0) different v n more)
              ∙ val-𝟙 p two
              in
              omega arith

      abbrev c : ℕ
      c = weight_of p (suc n) (get_or vs n 0) l t (get_or xs n 0)

      c_weight : res p c ≡ weight (residues p) (inv p) x v n f
      unfolding weight_of weight
      c_weight =
          product-res p pos ((get_or vs n 0 + (p - u)) % p) (inverse p z) refl
          ∙ ap₂ (λ (s r : C). s ⊗ r) (difference-res p pos (get_or vs n 0) u (le_of_lt u-below) refl) (inverse-res p z z-below refl)
          ∙ ap₂ (λ (s r : C). (v n ⊕ (⊖ s)) ⊗ inv p r) (ap (res p) at_list ∙ res-val p (value (residues p) n f (x n))) (ap (res p) at-product ∙ res-val p (value (residues p) (suc n) g (x n)))
        where
          u : ℕ
          u = value_of p (suc n) l (get_or xs n 0)

          z : ℕ
          z = value_of p (suc n) t (get_or xs n 0)

          u-below : u < p
          u-below = omega (arith, at_list, val-lt p pos (value (residues p) n f (x n)))

          z-below : z < p
          z-below = omega (arith, at-product, val-lt p pos (value (residues p) (suc n) g (x n)))

      coefficient_new : (k : ℕ) → k < n + 1 → plus_multiple p c t l k ≡ coefficient (suc n) k
      unfolding plus_multiple newton
      coefficient_new k b =
          val_is p (mod-lt (c * get_or t k 0 + get_or l k 0) pos)
          (res-mod p pos (c * get_or t k 0 + get_or l k 0)
          ∙ res-+ p (c * get_or t k 0) (get_or l k 0)
          ∙ ap₂ (λ (s r : C). s ⊕ r)
          (res-* p c (get_or t k 0) ∙ ap₂ (λ (s r : C). s ⊗ r) c_weight (ap (res p) (h.products k (omega arith)) ∙ res-val p (g k)))
          (ap (res p) (h.coefficients k (omega arith)) ∙ res-val p (f k))
          ∙ ⊕_comm (weight (residues p) (inv p) x v n f ⊗ g k) (f k))

      coefficient_old : (k : ℕ) → n + 1 ≤ k → k < count → coefficient n k ≡ coefficient (suc n) k
      coefficient_old k a _ =
          ap (val p) (newton-bound (residues p) (inv p) x v n k (omega arith) ∙ sym (newton-bound (residues p) (inv p) x v (suc n) k (omega arith)))

      product_new : (k : ℕ) → k < n + 2 → times_linear p (get_or xs n 0) t k ≡ val p (product (residues p) (suc n) x k)
      unfolding times_linear
      product_new zero b =
          val_is p (mod-lt _ pos)
          (mul-sub-res p pos 0 (get_or xs n 0) (get_or t 0 0) refl
          ∙ ap₂ (λ (s r : C). s ⊕ (⊖ (x n ⊗ r))) (res-zero p) (ap (res p) (h.products 0 (omega arith)) ∙ res-val p (g 0))
          ∙ zero-⊕ (residues p) (⊖ (x n ⊗ g 0))
          ∙ sym (product_first (residues p) n x ∙ neg-⊗ (residues p) (x n) (g 0)))
      product_new (suc k) b =
          val_is p (mod-lt _ pos)
          (mul-sub-res p pos (get_or t k 0) (get_or xs n 0) (get_or t (suc k) 0) refl
          ∙ ap₂ (λ (s r : C). s ⊕ (⊖ (x n ⊗ r))) (ap (res p) (h.products k (omega arith)) ∙ res-val p (g k)) (ap (res p) (h.products (suc k) (omega arith)) ∙ res-val p (g (suc k)))
          ∙ ⊕_comm (g k) (⊖ (x n ⊗ g (suc k)))
          ∙ ap (λ (s : C). s ⊕ g k) (sym (neg-⊗ (residues p) (x n) (g (suc k))))
          ∙ sym (product-next (residues p) n x k))

      product_old : (k : ℕ) → n + 2 ≤ k → val p (g k) ≡ val p (product (residues p) (suc n) x k)
      product_old k a = ap (val p) (product-bound (residues p) n x k (omega arith) ∙ sym (product-bound (residues p) (suc n) x k (omega arith)))

      reached-entries : {l' t' : List ℕ} → length l' ≡ length l → length t' ≡ length t
          → ((k : ℕ) → k < n + 1 → get_or l' k 0 ≡ plus_multiple p c t l k) → ((k : ℕ) → n + 1 ≤ k → get_or l' k 0 ≡ get_or l k 0)
          → ((k : ℕ) → k < n + 2 → get_or t' k 0 ≡ times_linear p (get_or xs n 0) t k) → ((k : ℕ) → n + 2 ≤ k → get_or t' k 0 ≡ get_or t k 0)
          → Reached (n + 1) l' t'
      reached-entries {l'} {t'} long-l long-t l_new l_old t_new t_old =
          record {
            within = omega arith;
            long_l = long-l ∙ h.long_l;
            long_t = long-t ∙ h.long_t;
            coefficients = λ k b. elim (dec_lt k (n + 1)) [
              | yes a ↦ l_new k a ∙ coefficient_new k a
              | no a ↦ l_old k (omega arith) ∙ h.coefficients k b ∙ coefficient_old k (omega arith) b
            ] ∙ ap (λ (i : ℕ). coefficient i k) (sym (add-one n));
            products = λ k b. elim (dec_lt k (n + 2)) [
              | yes a ↦ t_new k a ∙ product_new k a
              | no a ↦ t_old k (omega arith) ∙ h.products k b ∙ product_old k (omega arith)
            ] ∙ ap (λ (i : ℕ). val p (product (residues p) i x k)) (sym (add-one n));
          }

      -- the fronts of the two lists, which one step sees and writes
      abbrev l-front : List ℕ
      l-front = take (n + 1) l

      abbrev t-front : List ℕ
      t-front = take (n + 2) t

      l-long : length l-front ≡ n + 1
      l-long = length-take-le (n + 1) l (omega (arith, h.long_l))

      t-long : length t-front ≡ n + 2
      t-long = length-take-le (n + 2) t (omega (arith, h.long_t))

      front_value : (k : ℕ) (r : List ℕ) → n < k → value_of p (length l-front) (take k r) (get_or xs n 0) ≡ value_of p (suc n) r (get_or xs n 0)
      front_value k r b =
          ap (λ (m : ℕ). value_of p m (take k r) (get_or xs n 0)) (l-long ∙ add-one n) ∙ value_front p (get_or xs n 0) (suc n) k r (omega arith)

      pub reached-front : 0 < value_of p (suc n) t (get_or xs n 0) → 0 < value_of p (length l-front) t-front (get_or xs n 0)
      reached-front some = omega (arith, front_value (n + 2) t (omega arith))

      -- one step on the fronts is that step on the lists
      front_sum : (k : ℕ) → k < n + 1
          → plus_multiple p (weight_of p (length l-front) (get_or vs n 0) l-front t-front (get_or xs n 0)) t-front l-front k ≡ plus_multiple p c t l k
      unfolding plus_multiple weight_of
      front_sum k b =
          ap₂ (λ (u z : ℕ). (((get_or vs n 0 + (p - u)) % p * inverse p z % p) * get_or t-front k 0 + get_or l-front k 0) % p)
          (front_value (n + 1) l (omega arith)) (front_value (n + 2) t (omega arith))
          ∙ ap₂ (λ (s r : ℕ). (c * s + r) % p) (get_or-take (n + 2) t k 0 (omega arith)) (get_or-take (n + 1) l k 0 b)

      front_product : (k : ℕ) → k < n + 2 → times_linear p (get_or xs n 0) t-front k ≡ times_linear p (get_or xs n 0) t k
      unfolding times_linear
      front_product k b = ap₂ (λ (s r : ℕ). (s + (p - (get_or xs n 0 * r) % p)) % p) (shifted k b) (get_or-take (n + 2) t k 0 b)
        where
          shifted : (k : ℕ) → k < n + 2 → get_or (0 ∷ t-front) k 0 ≡ get_or (0 ∷ t) k 0
          shifted zero b = refl
          shifted (suc k) b = get_or-take (n + 2) t k 0 (omega arith)

      pub reached-next : {l' t' : List ℕ}
          → l' ≡ tabulate (length l-front) (plus_multiple p (weight_of p (length l-front) (get_or vs n 0) l-front t-front (get_or xs n 0)) t-front l-front)
          → t' ≡ tabulate (length t-front) (times_linear p (get_or xs n 0) t-front)
          → Reached (n + 1) (l' ++ drop (n + 1) l) (t' ++ drop (n + 2) t)
      reached-next {l'} {t'} el et =
          reached-entries
          (ap length l-is ∙ front_length sums (n + 1) l (omega (arith, h.long_l)))
          (ap length t-is ∙ front_length products (n + 2) t (omega (arith, h.long_t)))
          (λ k b. ap (λ (r : List ℕ). get_or r k 0) l-is ∙ front_new sums (n + 1) l k b ∙ front_sum k b)
          (λ k b. ap (λ (r : List ℕ). get_or r k 0) l-is ∙ front_old sums (n + 1) l k b)
          (λ k b. ap (λ (r : List ℕ). get_or r k 0) t-is ∙ front_new products (n + 2) t k b ∙ front_product k b)
          (λ k b. ap (λ (r : List ℕ). get_or r k 0) t-is ∙ front_old products (n + 2) t k b)
        where
          sums : ℕ → ℕ
          sums = plus_multiple p (weight_of p (length l-front) (get_or vs n 0) l-front t-front (get_or xs n 0)) t-front l-front

          products : ℕ → ℕ
          products = times_linear p (get_or xs n 0) t-front

          l-is : l' ++ drop (n + 1) l ≡ tabulate (n + 1) sums ++ drop (n + 1) l
          l-is = ap (λ (r : List ℕ). r ++ drop (n + 1) l) (el ∙ ap (λ (m : ℕ). tabulate m sums) l-long)

          t-is : t' ++ drop (n + 2) t ≡ tabulate (n + 2) products ++ drop (n + 2) t
          t-is = ap (λ (r : List ℕ). r ++ drop (n + 2) t) (et ∙ ap (λ (m : ℕ). tabulate m products) t-long)

  pub reached-last : {n : ℕ} {l t : List ℕ} → Reached n l t → count ≤ n → l ≡ tabulate count (coefficient count)
  reached-last {n} {l} h e = list_of (coefficient count) l h.long_l (λ k b. h.coefficients k b ∙ ap (λ (i : ℕ). coefficient i k) all)
    where
      all : n ≡ count
      all = omega (arith, h.within)

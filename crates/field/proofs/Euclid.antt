-- Euclid's algorithm on p and a, with the multiples of a that its remainders are.
--
--   sgn R minus                   1, or -1 where minus is true
--   Chain p a minus r0 r1 t0 t1   two remainders r0 > r1 > 0 in a row, with r1 = t1 * a and r0 = -(t0 * a) modulo p,
--                                 both signs turned where minus is true, and r0*t1 + r1*t0 = p, which bounds all four
--   chain_first                   p and a begin a chain
--   chain_next                    division of r0 by r1 leads to the next pair
--   chain_bounds                  r0 and t1 are at most p
--   chain-plus, chain-minus       at r1 = 1 the multiple t1, with its sign, is the inverse of a
use Prim.Native.Nat.{ℕ, ◌+◌, ◌*◌, ◌-◌, ◌/◌, ◌%◌, ◌≤◌, ◌<◌}
use native.Mathlib.Nat.{pos_of_ne-zero, one-le-mul, mul-mod_right, mul-le-mul_left, mul-le-mul_right, mod-eq_of_lt, mod-lt, mod-eq-sub-div-mul, div-mul-le_self, add-sub_of_le}
use native.Mathlib.Omega.{arith}
use mathlib.Core.Bool.{Bool, true, false, not}
use mathlib.Core.Path.{◌≡◌, refl, sym, ap, ◌∙◌}
use Rattle.ring.specs.Ring.{Ring}
use Rattle.ring.specs.RingLaws.{one-⊗, zero-⊗, ⊗-zero, zero-⊕, neg-⊕, neg-⊗, neg-neg, dist-⊗, ⊗_left_comm}
use Rattle.residue.specs.Prime.{Prime}
use Rattle.residue.specs.PrimeLaws.{prime_no_divisor}
use Rattle.residue.specs.Residue.{residues, res}
use Rattle.residue.specs.ResidueLaws.{res-+, res-*, res_self, res-zero, res_one, res-neg, path-res}
use Rattle.residue.specs.Inverse.{inverse}
use Rattle.residue.specs.InverseLaws.{inverse_unique}

module _ (R : Ring) where
  open R use {C, ◌⊕◌, ◌⊗◌, ⊖◌, 𝟙, ⊕_assoc, ⊗_assoc, ⊗_dist}

  unfoldable pub sgn : Bool → C
  sgn true = ⊖ 𝟙
  sgn false = 𝟙

  sgn-not : (minus : Bool) → sgn (not minus) ≡ ⊖ (sgn minus)
  unfolding sgn
  sgn-not true = sym (neg-neg R 𝟙)
  sgn-not false = refl

  -- the remainder of a division, as a multiple of x, from the dividend's and the divisor's
  multiple-next : (s x q u v w t₀ t₁ : C) → u ≡ (⊖ s) ⊗ (t₀ ⊗ x) → v ≡ s ⊗ (t₁ ⊗ x) → (q ⊗ v) ⊕ w ≡ u → w ≡ (⊖ s) ⊗ (((q ⊗ t₁) ⊕ t₀) ⊗ x)
  multiple-next s x q u v w t₀ t₁ hu hv sums =
      sym (zero-⊕ R w)
      ∙ ap (λ (z : C). z ⊕ w) (sym (neg-⊕ R (q ⊗ v)))
      ∙ ⊕_assoc (⊖ (q ⊗ v)) (q ⊗ v) w
      ∙ ap (λ (z : C). (⊖ (q ⊗ v)) ⊕ z) (sums ∙ hu)
      ∙ ap (λ (z : C). z ⊕ ((⊖ s) ⊗ (t₀ ⊗ x))) turned
      ∙ sym (⊗_dist (⊖ s) ((q ⊗ t₁) ⊗ x) (t₀ ⊗ x))
      ∙ ap (λ (z : C). (⊖ s) ⊗ z) (sym (dist-⊗ R (q ⊗ t₁) t₀ x))
    where
      turned : ⊖ (q ⊗ v) ≡ (⊖ s) ⊗ ((q ⊗ t₁) ⊗ x)
      turned =
          ap (λ (z : C). ⊖ (q ⊗ z)) hv
          ∙ ap (λ (z : C). ⊖ z) (⊗_left_comm R q s (t₁ ⊗ x) ∙ ap (λ (z : C). s ⊗ z) (sym (⊗_assoc q t₁ x)))
          ∙ sym (neg-⊗ R s ((q ⊗ t₁) ⊗ x))

module _ (p a : ℕ) where
  open residues p use {C, ◌⊕◌, ◌⊗◌, ⊖◌, 𝟙, ⊗_comm}

  abbrev x : C
  x = res p a

  pub record Chain (minus : Bool) (r0 r1 t0 t1 : ℕ) : Type 0 where
    pub last : 0 < r1
    pub falls : r1 < r0
    pub short : r1 < p
    pub some : 0 < t1
    pub total : r0 * t1 + r1 * t0 ≡ p
    pub upper : res p r0 ≡ (⊖ (sgn (residues p) minus)) ⊗ (res p t0 ⊗ res p a)
    pub lower : res p r1 ≡ sgn (residues p) minus ⊗ (res p t1 ⊗ res p a)

  pub chain_first : 0 < a → a < p → Chain false p a 0 1
  unfolding sgn
  chain_first pos less =
      record {
        last = pos;
        falls = less;
        short = less;
        some = omega arith;
        total = omega arith;
        upper = res_self p ∙ sym (ap (λ (z : C). (⊖ 𝟙) ⊗ (z ⊗ x)) (res-zero p) ∙ ap (λ (z : C). (⊖ 𝟙) ⊗ z) (zero-⊗ (residues p) x) ∙ ⊗-zero (residues p) (⊖ 𝟙));
        lower = sym (one-⊗ (residues p) (res p 1 ⊗ x) ∙ ap (λ (z : C). z ⊗ x) (res_one p) ∙ one-⊗ (residues p) x);
      }

  module _ {minus : Bool} {r0 r1 t0 t1 : ℕ} (h : Chain minus r0 r1 t0 t1) where
    abbrev s : C
    s = sgn (residues p) minus

    pub chain_bounds : (r0 ≤ p) × (t1 ≤ p)
    chain_bounds = (
      omega (arith, h.total, mul-le-mul_left {m = 1} {n = t1} r0 h.some),
      omega (arith, h.total, mul-le-mul_right {m = 1} {n = r0} t1 (omega arith)),
    )

    chain_step : Prime p → 1 < r1 → (q r2 : ℕ) → q * r1 + r2 ≡ r0 → r2 < r1 → Chain (not minus) r1 r2 t1 (q * t1 + t0)
    chain_step prime more q r2 divides less =
        record {
          last = pos_of_ne-zero divides-not;
          falls = less;
          short = omega arith;
          some = omega (arith, one-le-mul q-some h.some);
          total = total-next;
          upper = h.lower ∙ ap (λ (z : C). z ⊗ (res p t1 ⊗ x)) (sym (ap (λ (z : C). ⊖ z) (sgn-not (residues p) minus) ∙ neg-neg (residues p) s));
          lower =
              multiple-next (residues p) s x (res p q) (res p r0) (res p r1) (res p r2) (res p t0) (res p t1) h.upper h.lower sums
              ∙ ap (λ (z : C). (⊖ s) ⊗ (z ⊗ x)) (ap (λ (z : C). z ⊕ res p t0) (sym (res-* p q t1)) ∙ sym (res-+ p (q * t1) t0))
              ∙ ap (λ (z : C). z ⊗ (res p (q * t1 + t0) ⊗ x)) (sym (sgn-not (residues p) minus));
        }
      where
        total-next : r1 * (q * t1 + t0) + r2 * t1 ≡ p
        total-next = omega (arith, h.total, ap (λ (n : ℕ). n * t1) divides)

        q-some : 0 < q
        q-some = pos_of_ne-zero (λ (none : q ≡ 0). absurd (omega (arith, h.falls, ap (λ (n : ℕ). n * r1) none)))

        divides-not : r2 ≡ 0 → ⊥
        divides-not none =
            let whole : r1 * (q * t1 + t0) ≡ p = omega (arith, total-next, ap (λ (n : ℕ). n * t1) none) in
            prime_no_divisor more h.short prime (ap (λ (n : ℕ). n % r1) (sym whole) ∙ mul-mod_right r1 (q * t1 + t0))

        sums : (res p q ⊗ res p r1) ⊕ res p r2 ≡ res p r0
        sums = ap (λ (z : C). z ⊕ res p r2) (sym (res-* p q r1)) ∙ sym (res-+ p (q * r1) r2) ∙ ap (res p) divides

    pub chain_next : Prime p → 1 < r1 → Chain (not minus) r1 (r0 - r0 / r1 * r1) t1 (r0 / r1 * t1 + t0)
    chain_next prime more =
        chain_step prime more (r0 / r1) (r0 - r0 / r1 * r1) (add-sub_of_le (div-mul-le_self r0 r1))
        (omega (arith, mod-lt r0 h.last, mod-eq-sub-div-mul r0 r1))

    -- a number b below p that is t1 with its sign
    chain-last : r1 ≤ 1 → (b : ℕ) → b < p → res p b ≡ s ⊗ res p t1 → b ≡ inverse p a
    chain-last end b less e = inverse_unique a less (path-res p (omega arith) (a * b) 1 product ∙ mod-eq_of_lt one_less)
      where
        one : r1 ≡ 1
        one = omega (arith, h.last)

        one_less : 1 < p
        one_less = omega (arith, h.falls, chain_bounds.0)

        product : res p (a * b) ≡ res p 1
        product =
            res-* p a b
            ∙ ap (λ (z : C). x ⊗ z) e
            ∙ ⊗_left_comm (residues p) x s (res p t1)
            ∙ ap (λ (z : C). s ⊗ z) (⊗_comm x (res p t1))
            ∙ sym h.lower
            ∙ ap (res p) one

  module _ {r0 r1 t0 t1 : ℕ} where
    pub chain-plus : Chain false r0 r1 t0 t1 → r1 ≤ 1 → t1 ≡ inverse p a
    unfolding sgn
    chain-plus h end = chain-last h end t1 less (sym (one-⊗ (residues p) (res p t1)))
      where
        less : t1 < p
        less = omega (arith, h.total, h.some, mul-le-mul_right {m = 2} {n = r0} t1 (omega (arith, h.last, h.falls)))

    pub chain-minus : Chain true r0 r1 t0 t1 → r1 ≤ 1 → p - t1 ≡ inverse p a
    unfolding sgn
    chain-minus h end =
        chain-last h end (p - t1) (omega (arith, h.some, bound))
        (res-neg p bound ∙ ap (λ (z : C). ⊖ z) (sym (one-⊗ (residues p) (res p t1))) ∙ sym (neg-⊗ (residues p) 𝟙 (res p t1)))
      where
        bound : t1 ≤ p
        bound = (chain_bounds h).1

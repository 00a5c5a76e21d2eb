-- Powers by squaring.
--
--   pow_even, pow_odd     x^n from a power of x*x, by the last binary digit of n
--   Raised p x r b k      r is below p, and r * b^k is the power x modulo p
--   raised_first          1 * a^n is a^n
--   raised_even           b^k is (b*b)^(k/2) for an even k
--   raised_odd            r * b^k is (r*b) * (b*b)^(k/2) for an odd k
--   raised-last           with no factor left, r is the power
use Prim.Native.Nat.{ℕ, suc, ◌*◌, ◌%◌, ◌/◌, ◌≤◌, ◌<◌}
use native.Mathlib.Nat.{mod-lt}
use native.Mathlib.Omega.{arith}
use mathlib.Core.Path.{◌≡◌, sym, ap, ◌∙◌}
use Rattle.ring.specs.Ring.{Ring, pow}
use Rattle.ring.specs.RingLaws.{pow-mul, one-⊗}
use Rattle.residue.specs.Computed.{product-res}
use Rattle.residue.specs.Residue.{residues, res}
use Rattle.residue.specs.ResidueLaws.{res_one}

module _ (R : Ring) where
  open R use {C, ◌⊗◌, ⊗-one}

  pow_twice : (x : C) (k : ℕ) → pow R x (2 * k) ≡ pow R (x ⊗ x) k
  unfolding pow
  pow_twice x k = pow-mul R x 2 k ∙ ap (λ (t : C). pow R (x ⊗ t) k) (⊗-one x)

  pub pow_even : (x : C) (n : ℕ) → n % 2 ≡ 0 → pow R x n ≡ pow R (x ⊗ x) (n / 2)
  pow_even x n even =
      let halves : n ≡ 2 * (n / 2) = omega arith in
      ap (pow R x) halves ∙ pow_twice x (n / 2)

  pub pow_odd : (x : C) (n : ℕ) → n % 2 ≡ 1 → pow R x n ≡ x ⊗ pow R (x ⊗ x) (n / 2)
  unfolding pow
  pow_odd x n odd =
      let halves : n ≡ suc (2 * (n / 2)) = omega arith in
      ap (pow R x) halves ∙ ap (λ (t : C). x ⊗ t) (pow_twice x (n / 2))

module _ (p : ℕ) where
  open residues p use {C, ◌⊗◌, ⊗-one, ⊗_assoc}

  pub record Raised (x : C) (r base left : ℕ) : Type 0 where
    pub below : r < p
    pub same : res p r ⊗ pow (residues p) (res p base) left ≡ x

  pub raised_first : 2 ≤ p → (a n : ℕ) → Raised (pow (residues p) (res p a) n) 1 a n
  raised_first two a n = record { below = two; same = ap (λ (t : C). t ⊗ pow (residues p) (res p a) n) (res_one p) ∙ one-⊗ (residues p) _ }

  module _ {x : C} {r base left : ℕ} (h : Raised x r base left) {squared : ℕ} (e : squared ≡ (base * base) % p) where
    pos : 0 < p
    pos = omega arith

    square : pow (residues p) (res p squared) (left / 2) ≡ pow (residues p) (res p base ⊗ res p base) (left / 2)
    square = ap (λ (t : C). pow (residues p) t (left / 2)) (product-res p pos base base e)

    pub raised_even : left % 2 ≡ 0 → Raised x r squared (left / 2)
    raised_even even = record { below = h.below; same = ap (λ (t : C). res p r ⊗ t) (square ∙ sym (pow_even (residues p) (res p base) left even)) ∙ h.same }

    pub raised_odd : {next : ℕ} → next ≡ (r * base) % p → left % 2 ≡ 1 → Raised x next squared (left / 2)
    raised_odd {next} f odd =
        record {
          below = omega (arith, mod-lt (r * base) pos);
          same =
              ap (λ (t : C). t ⊗ pow (residues p) (res p squared) (left / 2)) (product-res p pos r base f)
              ∙ ⊗_assoc (res p r) (res p base) (pow (residues p) (res p squared) (left / 2))
              ∙ ap (λ (t : C). res p r ⊗ t) (ap (λ (t : C). res p base ⊗ t) square ∙ sym (pow_odd (residues p) (res p base) left odd))
              ∙ h.same;
        }

  pub raised-last : {x : C} {r base left : ℕ} → Raised x r base left → left ≡ 0 → res p r ≡ x
  unfolding pow
  raised-last {x} {r} {base} h none = sym (⊗-one (res p r)) ∙ ap (λ (t : ℕ). res p r ⊗ pow (residues p) (res p base) t) (sym none) ∙ h.same

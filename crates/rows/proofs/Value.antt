-- Signs and powers of residues, as the code computes them.
--
--   signed_even, signed_odd    (-1)^n times a residue, by the last binary digit of n
--   val_is                     a number below p is the number of its residue
--   value_below                the number of a residue is below p
use Prim.Native.Nat.{ℕ, ◌+◌, ◌-◌, ◌%◌, ◌<◌}
use native.Mathlib.Omega.{arith}
use mathlib.Core.Path.{◌≡◌, sym, ap, ◌∙◌}
use Rattle.ring.specs.Ring.{Ring, sign}
use Rattle.ring.specs.RingLaws.{one-⊗, zero-⊕, neg-⊗, sign_even, sign_odd}
use Rattle.residue.specs.Residue.{residues, res, val}
use Rattle.residue.specs.ResidueLaws.{val-lt, val-res_small, res-zero}
use Rattle.residue.specs.Computed.{difference-res}
use Rattle.field.specs.declared.Modulus.{Modulus}

module _ (p : ℕ) where
  open residues p use {C, ◌⊕◌, ◌⊗◌, ⊖◌, 𝟙}

  pub signed_even : (n : ℕ) (x : C) → n % 2 ≡ 0 → x ≡ sign (residues p) n ⊗ x
  unfolding sign
  signed_even n x e =
      sym (ap (λ (s : C). s ⊗ x) (sign_even (residues p) n e) ∙ one-⊗ (residues p) x)

  pub signed_odd : (n x : ℕ) {r : ℕ} → n % 2 ≡ 1 → x < p → r ≡ (0 + (p - x)) % p → res p r ≡ sign (residues p) n ⊗ res p x
  unfolding sign
  signed_odd n x e less is =
      difference-res p (omega arith) 0 x (omega arith) is
      ∙ ap (λ (t : C). t ⊕ (⊖ (res p x))) (res-zero p)
      ∙ zero-⊕ (residues p) (⊖ (res p x))
      ∙ sym (ap (λ (s : C). s ⊗ res p x) (sign_odd (residues p) n (λ z. omega arith)) ∙ neg-⊗ (residues p) 𝟙 (res p x) ∙ ap (λ (t : C). ⊖ t) (one-⊗ (residues p) (res p x)))

  pub val_is : {r : ℕ} {x : C} → r < p → res p r ≡ x → r ≡ val p x
  val_is less e = sym (val-res_small less) ∙ ap (val p) e

pub value_below : (p : Modulus) (x : Ring.C (residues p.value)) {r : ℕ} → r ≡ val p.value x → r < p.value
value_below p x e = rw e (val-lt p.value (omega (arith, p.least)) x)

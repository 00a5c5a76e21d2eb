-- Facts on numbers: products that fit, and a difference by one remainder.
--
--   product_most    two numbers of 32 bits have a product of at most (2^32 - 1)^2
--   minus-product   (p - b) * q + c is c - q * b modulo p
use Prim.Native.Nat.{ℕ, ◌+◌, ◌*◌, ◌-◌, ◌%◌, ◌^◌, ◌≤◌, ◌<◌}
use native.Mathlib.Nat.{mul-le-mul, le_of_lt}
use native.Mathlib.Omega.{arith}
use mathlib.Core.Path.{◌≡◌, refl, sym, ap, ◌∙◌}
use Rattle.ring.specs.RingLaws.{neg-⊗}
use Rattle.residue.specs.Computed.{mul-sub-res}
use Rattle.residue.specs.Residue.{residues, res}
use Rattle.residue.specs.ResidueLaws.{res-+, res-*, res-neg, res-mod, path-res}

pub product_most : {a b : ℕ} → a < 2 ^ 32 → b < 2 ^ 32 → a * b ≤ (2 ^ 32 - 1) * (2 ^ 32 - 1)
product_most {a} {b} ha hb = mul-le-mul {n₁ = a} {m₁ = b} {n₂ = 2 ^ 32 - 1} {m₂ = 2 ^ 32 - 1} (omega arith) (omega arith)

module _ (p : ℕ) where
  open residues p use {C, ◌⊕◌, ◌⊗◌, ⊖◌, ⊕_comm, ⊗_comm}

  pub minus-product : (c q b : ℕ) → b < p → ((p - b) * q + c) % p ≡ (c + (p - (q * b) % p)) % p
  minus-product c q b less = path-res p pos ((p - b) * q + c) (c + (p - (q * b) % p)) (left ∙ sym (mul-sub-res p pos c q b refl) ∙ res-mod p pos (c + (p - (q * b) % p)))
    where
      pos : 0 < p
      pos = omega arith

      left : res p ((p - b) * q + c) ≡ res p c ⊕ (⊖ (res p q ⊗ res p b))
      left =
          res-+ p ((p - b) * q) c
          ∙ ⊕_comm (res p ((p - b) * q)) (res p c)
          ∙ ap (λ (t : C). res p c ⊕ t) (res-* p (p - b) q ∙ ap (λ (t : C). t ⊗ res p q) (res-neg p (le_of_lt less)) ∙ neg-⊗ (residues p) (res p b) (res p q))
          ∙ ap (λ (t : C). res p c ⊕ (⊖ t)) (⊗_comm (res p b) (res p q))

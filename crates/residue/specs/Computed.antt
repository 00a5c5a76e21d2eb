-- Residues by plain numbers: a number that was computed as a remainder stands for the residue computed alike.
-- For a number r that a function of the crate field returned, these give its residue.
--
--   sum-res           r = (a + b) % p
--   difference-res    r = (a + (p - b)) % p
--   product-res       r = (a * b) % p
--   mul-sub-res       r = (c + (p - (q * b) % p)) % p
--   inverse-res       r = inverse p a
use Rattle.std.specs.Prelude.{ℕ, ◌+◌, ◌*◌, ◌-◌, ◌%◌, ◌≤◌, ◌<◌, ◌≡◌}
use Rattle.std.proofs.Common.{mod-lt, le_of_lt, sym, ap, ◌∙◌}
use Rattle.residue.specs.Residue.{residues, res}
use Rattle.residue.specs.ResidueLaws.{res-+, res-*, res-sub, res-mod, val-res_small}
use Rattle.residue.specs.Inverse.{inverse, inv}

module _ (p : ℕ) (pos : 0 < p) where
  open residues p use {C, ◌⊕◌, ◌⊗◌, ⊖◌}

  -- the residue of a remainder is that of the number
  remainder : (n : ℕ) {r : ℕ} → r ≡ n % p → res p r ≡ res p n
  remainder n e = ap (res p) e ∙ res-mod p pos n

  pub sum-res : (a b : ℕ) {r : ℕ} → r ≡ (a + b) % p → res p r ≡ res p a ⊕ res p b
  sum-res a b e = remainder (a + b) e ∙ res-+ p a b

  pub difference-res : (a b : ℕ) {r : ℕ} → b ≤ p → r ≡ (a + (p - b)) % p → res p r ≡ res p a ⊕ (⊖ (res p b))
  difference-res a b most e = remainder (a + (p - b)) e ∙ res-sub p a most

  pub product-res : (a b : ℕ) {r : ℕ} → r ≡ (a * b) % p → res p r ≡ res p a ⊗ res p b
  product-res a b e = remainder (a * b) e ∙ res-* p a b

  pub mul-sub-res : (c q b : ℕ) {r : ℕ} → r ≡ (c + (p - (q * b) % p)) % p → res p r ≡ res p c ⊕ (⊖ (res p q ⊗ res p b))
  mul-sub-res c q b e =
      difference-res c ((q * b) % p) (le_of_lt (mod-lt (q * b) pos)) e
      ∙ ap (λ (t : C). res p c ⊕ (⊖ t)) (res-mod p pos (q * b) ∙ res-* p q b)

pub inverse-res : (p a : ℕ) {r : ℕ} → a < p → r ≡ inverse p a → res p r ≡ inv p (res p a)
unfolding inv
inverse-res p a less e = ap (res p) (e ∙ ap (inverse p) (sym (val-res_small less)))

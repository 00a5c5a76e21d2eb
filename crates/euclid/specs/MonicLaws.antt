-- Laws of a row divided by its lead, for a prime p and an ended row of residues.
--
--   monic-length, monic-declared   it is as long as the row
--   monic-below                    its entries are residues
--   monic-coef                     the row's coefficients are the lead times its own
--   monic-last, monic-lead         its last entry is 1
--   monic-ended                    so it is ended
--   monic_divisor                  and divides modulo p
use Prim.Native.Nat.{ℕ, ◌*◌, ◌%◌, ◌<◌, ◌≤◌}
use Rattle.std.proofs.Common.{mod-lt, mod-eq_of_lt, zero-mul, arith, ◌∙◌}
use Rattle.std.proofs.Math.Nat.{zero-mod}
use Rattle.std.specs.Prelude.{List, ◌≡◌, ◌≢◌, length}
use Rattle.std.proofs.Math.Path.{sym, ap}
use Rattle.std.proofs.Math.ListN.{get_or, length-map, get_or-map}
use Rattle.ring.specs.RingLaws.{⊗_left_comm}
use Rattle.residue.specs.Prime.{Prime}
use Rattle.residue.specs.Residue.{residues, res}
use Rattle.residue.specs.ResidueLaws.{res-mod, res-*, res_one}
use Rattle.residue.specs.Inverse.{inverse}
use Rattle.residue.specs.InverseLaws.{inverse-right}
use Rattle.euclid.specs.Row.{coef, declared, lead}
use Rattle.euclid.specs.RowLaws.{Below, Ended, ended-lead, declared_same}
use Rattle.euclid.specs.DivisionLaws.{res-inverse}
use Rattle.euclid.specs.Sequence.{monic}

module _ (p : ℕ) (r : List ℕ) where
  pub monic-length : length (monic p r) ≡ length r
  unfolding monic
  monic-length = length-map r (λ (x : ℕ). x * inverse p (lead r) % p)

  pub monic-declared : declared (monic p r) ≡ declared r
  monic-declared = declared_same (monic p r) r monic-length

  pub monic-get_or : (j : ℕ) → get_or (monic p r) j 0 ≡ get_or r j 0 * inverse p (lead r) % p
  unfolding monic
  monic-get_or j =
      ap (λ (z : ℕ). get_or (monic p r) j z) (sym (ap (λ (z : ℕ). z % p) (zero-mul (inverse p (lead r))) ∙ zero-mod p))
      ∙ get_or-map (λ (x : ℕ). x * inverse p (lead r) % p) r j 0

  pub monic-below : 0 < p → Below p (monic p r)
  monic-below pos j = rw (monic-get_or j) (mod-lt (get_or r j 0 * inverse p (lead r)) pos)

module _ (p : ℕ) (two : 2 ≤ p) (prime : Prime p) (r : List ℕ) (ended : Ended r) (below : Below p r) where
  open residues p use {C, ◌⊗◌, 𝟙, ⊗_comm, ⊗-one}

  lead-some : lead r % p ≢ 0
  lead-some e =
      ended.1 (sym (mod-eq_of_lt (below (declared r))) ∙ ap (λ (x : ℕ). x % p) (sym (ended-lead r ended)) ∙ e)

  pub monic-coef : (j : ℕ) → coef p r j ≡ res p (lead r) ⊗ coef p (monic p r) j
  unfolding coef
  monic-coef j =
      sym (ap (λ (z : C). res p (lead r) ⊗ z) (ap (res p) (monic-get_or p r j) ∙ res-mod p (omega arith) (x * i) ∙ res-* p x i)
      ∙ ⊗_left_comm (residues p) (res p (lead r)) (res p x) (res p i)
      ∙ ap (λ (z : C). res p x ⊗ z) (⊗_comm (res p (lead r)) (res p i) ∙ res-inverse p two prime (lead r) lead-some)
      ∙ ⊗-one (res p x))
    where
      x : ℕ
      x = get_or r j 0

      i : ℕ
      i = inverse p (lead r)

  pub monic-last : get_or (monic p r) (declared (monic p r)) 0 ≡ 1
  monic-last =
      ap (λ (j : ℕ). get_or (monic p r) j 0) (monic-declared p r)
      ∙ monic-get_or p r (declared r)
      ∙ ap (λ (x : ℕ). x * inverse p (lead r) % p) (sym (ended-lead r ended))
      ∙ inverse-right two prime (lead r) lead-some

  pub monic-lead : coef p (monic p r) (declared (monic p r)) ≡ 𝟙
  unfolding coef
  monic-lead = ap (res p) monic-last ∙ res_one p

  pub monic-ended : Ended (monic p r)
  monic-ended = (omega (arith, ended.0, monic-length p r), omega (arith, monic-last))

  pub monic_divisor : get_or (monic p r) (declared (monic p r)) 0 % p ≢ 0
  monic_divisor e = omega (arith, mod-eq_of_lt two, ap (λ (x : ℕ). x % p) monic-last)

-- The determinant at declared degrees, as the code finds it by the leading entries.
--
--   ended_row         a row whose last entry is not 0 is one for the row resultant
--   plain_value_lem       neither row falls: the row resultant
--   swap-value        the rows change places, with the sign
--   both_fall         both fall: 0, or 1 where both are constants
--   constant-value    the first row is a constant
--   vanish-value      it is not, and the second row is all zero
--   true_row          the front of the second row that is left is one for the row resultant
--   fall-value        the second row falls to it
use Prim.Native.Nat.{ℕ, zero, suc, ◌+◌, ◌-◌, ◌*◌, ◌%◌, ◌<◌}
use native.Mathlib.Nat.{mod-lt}
use native.Mathlib.Omega.{arith}
use mathlib.Core.List.{List, []}
use mathlib.Core.Logic.{◌≢◌, ◌⊎◌, inl, inr}
use mathlib.Core.Path.{◌≡◌, refl, sym, ap, ap₂, subst, ◌∙◌}
use lib.ListN.{length, get_or, take}
use Rattle.std.proofs.Common.{nat_eq}
use Rattle.std.proofs.Math.Dec.{eqb-suc-zero}
use Rattle.std.specs.Int.{from_bool}
use Rattle.ring.specs.Ring.{pow, sign}
use Rattle.residue.specs.Residue.{residues, res, val}
use Rattle.residue.specs.ResidueLaws.{res-val, val-𝟘, val-𝟙}
use Rattle.residue.specs.Computed.{product-res}
use Rattle.euclid.specs.Row.{coef, trim, declared, degree, row_determinant}
use Rattle.euclid.specs.RowLaws.{Ended, trim-below, trim-ended, trim-length}
use Rattle.euclid.specs.FallLaws.{determinant_swap, determinant_fall-right, determinant_constant, determinant_vanish, determinant_both, determinant-one}
use Rattle.euclid.specs.Sequence.{row_resultant}
use Rattle.euclid.proofs.SequenceLaws.{row_resultant-right}
use Rattle.field.specs.declared.Modulus.{Modulus}
use Rattle.rows.specs.Given.{IsRow, IsDeclared}
use Rattle.rows.proofs.Bounds.{declared-minus}
use Rattle.rows.proofs.Trim.{trim-front}
use Rattle.rows.proofs.Turns.{empty}
use Rattle.rows.proofs.Value.{val_is}

pub ended_row : {p : ℕ} {r : List ℕ} → IsDeclared p r → get_or r (length r - 1) 0 ≢ 0 → IsRow p r
ended_row {p} {r} h lead = record { ended = (h.some, rw (declared-minus r) at lead); below = h.below; short = h.short }

module _ (p : Modulus) (u w : List ℕ) where
  open residues p.value use {◌⊗◌}

  pub plain_value_lem : IsRow p.value u → IsRow p.value w → row_resultant p.value u w ≡ row_determinant p.value u w
  plain_value_lem hu hw =
      row_resultant-right p.value p.least p.prime u w hu.ended hu.below hw.ended hw.below

  pub swap-value : {x r : ℕ} → x ≡ val p.value (row_determinant p.value w u) → r < p.value → res p.value r ≡ sign (residues p.value) ((length u - 1) * (length w - 1)) ⊗ res p.value x
      → r ≡ val p.value (row_determinant p.value u w)
  swap-value e low is =
      val_is p.value low
      (is
      ∙ ap₂ ◌⊗◌ (ap₂ (λ (m n : ℕ). sign (residues p.value) (m * n)) (declared-minus u) (declared-minus w)) (ap (res p.value) e ∙ res-val p.value _)
      ∙ sym (determinant_swap p.value u w))

  pub both_fall : get_or u (length u - 1) 0 ≡ 0 → get_or w (length w - 1) 0 ≡ 0
      → from_bool (nat_eq (length u - 1 + (length w - 1)) 0) ≡ val p.value (row_determinant p.value u w)
  both_fall eu ew = by_sum (length u - 1 + (length w - 1)) refl
    where
      by_sum : (n : ℕ) → length u - 1 + (length w - 1) ≡ n → from_bool (nat_eq n 0) ≡ val p.value (row_determinant p.value u w)
      by_sum zero e =
          sym (ap (val p.value) (determinant-one p.value u w (omega (arith, declared-minus u)) (omega (arith, declared-minus w))) ∙ val-𝟙 p.value (omega (arith, p.least)))
      by_sum (suc n) e =
          ap from_bool (eqb-suc-zero n)
          ∙ sym (ap (val p.value) (determinant_both p.value u w (omega (arith, declared-minus u, declared-minus w)) (rw (declared-minus u) at eu) (rw (declared-minus w) at ew)) ∙ val-𝟘 p.value)

  -- the power of the lead that the code takes
  power_is : {m n : ℕ} → m ≡ n → pow (residues p.value) (res p.value (get_or u (length u - 1) 0)) m ≡ pow (residues p.value) (coef p.value u (declared u)) n
  unfolding coef
  power_is e = ap₂ (λ (i j : ℕ). pow (residues p.value) (res p.value (get_or u i 0)) j) (declared-minus u) e

  pub constant-value : length u - 1 ≡ 0 → {r : ℕ} → r < p.value → res p.value r ≡ pow (residues p.value) (res p.value (get_or u (length u - 1) 0)) (length w - 1)
      → r ≡ val p.value (row_determinant p.value u w)
  constant-value e low is =
      val_is p.value low (is ∙ power_is (declared-minus w) ∙ sym (determinant_constant p.value u w (omega (arith, declared-minus u))))

module _ (p : Modulus) (u w : List ℕ) {len : ℕ} (long : len ≡ length (trim w)) where
  open residues p.value use {◌⊗◌}

  pub vanish-value : length u - 1 ≢ 0 → len ≡ 0 → 0 ≡ val p.value (row_determinant p.value u w)
  vanish-value some e =
      sym (ap (val p.value) (determinant_vanish p.value u w (empty (trim w) (omega arith)) (omega (arith, declared-minus u))) ∙ val-𝟘 p.value)

  pub true_row : IsDeclared p.value w → len ≢ 0 → IsRow p.value (take len w)
  true_row h some =
      subst (IsRow p.value) (sym (trim-front w long))
      record { ended = by_end (trim-ended w); below = trim-below p.value w h.below; short = omega (arith, trim-length w, h.short) }
    where
      by_end : (trim w ≡ []) ⊎ Ended (trim w) → Ended (trim w)
      by_end (inl e) = absurd (omega (arith, ap length e))
      by_end (inr e) = e

  pub fall-value : IsRow p.value u → IsDeclared p.value w → len ≢ 0 → (high : ℕ) {x r : ℕ}
      → res p.value high ≡ pow (residues p.value) (res p.value (get_or u (length u - 1) 0)) (length w - 1 - (len - 1))
      → x ≡ val p.value (row_resultant p.value u (take len w)) → r ≡ high * x % p.value → r ≡ val p.value (row_determinant p.value u w)
  unfolding degree
  fall-value hu hw some high {x} {r} eh ex er =
      val_is p.value (rw er (mod-lt (high * x) (omega (arith, p.least))))
      (product-res p.value (omega (arith, p.least)) high x er
      ∙ ap₂ ◌⊗◌ (eh ∙ power_is p u w falls) (ap (res p.value) ex ∙ res-val p.value _ ∙ plain)
      ∙ sym (determinant_fall-right p.value u w))
    where
      falls : length w - 1 - (len - 1) ≡ declared w - degree w
      falls = omega (arith, declared-minus w, declared-minus (trim w))

      plain : row_resultant p.value u (take len w) ≡ row_determinant p.value u (trim w)
      plain = plain_value_lem p u (take len w) hu (true_row hw some) ∙ ap (row_determinant p.value u) (trim-front w long)

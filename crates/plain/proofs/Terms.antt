-- Expansion along the first row, as the code works it out: signed terms, added up one after the other.
--
--   det-signed             a determinant is the sum of its signed terms
--   det-minor              a minor of a part of a matrix is a part again: one row further down, in the other columns
--   remainder-below        a remainder by p is below p
--   val-below              the number of a residue is below p
--   det_none               the determinant of no rows is 1
--   Summed p left A s j    s is the sum of the first j signed terms of the `left` by `left` matrix A
--   summed_first, summed-next, summed-last   such sums before the first term, after one more, and at the end
--   term_even, term_odd    the signed term, from the product of an entry of the first row and its minor
use Prim.Native.Nat.{ℕ, zero, suc, ◌+◌, ◌*◌, ◌-◌, ◌%◌, ◌<◌, ◌≤◌}
use native.Mathlib.Nat.{mod-lt, le_of_lt, add-zero}
use native.Mathlib.Numerals.{add-one}
use native.Mathlib.Omega.{arith}
use mathlib.Core.Path.{◌≡◌, refl, sym, ap, ap₂, subst, ◌∙◌}
use mathlib.Core.List.{List}
use lib.ListN.{length, get_or}
use Rattle.std.specs.List.{remove}
use Rattle.std.proofs.lemmas.List.Edits.{length-remove}
use Rattle.ring.specs.Ring.{Ring, sign}
use Rattle.ring.specs.RingLaws.{one-⊗, zero-⊕, neg-⊗, sign_even, sign_odd}
use Rattle.ring.specs.Sum.{sum, alt}
use Rattle.ring.specs.SumLaws.{sum-neg, sum_ext, sum-last}
use Rattle.ring.specs.Det.{minor, det}
use Rattle.ring.specs.DetLaws.{det_ext}
use Rattle.residue.specs.Residue.{residues, res, val}
use Rattle.residue.specs.ResidueLaws.{val-𝟘, val-⊕, val-lt, val-𝟙, val-res_small, res-val, res-zero}
use Rattle.residue.specs.Computed.{product-res, difference-res}
use Rattle.plain.specs.Expansion.{cell, part, signed}
use Rattle.plain.proofs.Columns.{removed}

module _ (R : Ring) where
  open R use {C, ◌⊕◌, ◌⊗◌, ⊖◌, 𝟙}

  -- an alternating sum is a sum of signed terms
  alt-sum : (n : ℕ) (f : ℕ → C) → alt R n f ≡ sum R n (λ j. sign R j ⊗ f j)
  unfolding alt sum sign
  alt-sum zero f = refl
  alt-sum (suc n) f =
      ap₂ (λ (x y : C). x ⊕ y) (sym (one-⊗ R (f zero)))
      (ap (λ (x : C). ⊖ x) (alt-sum n (λ j. f (suc j)))
      ∙ sym (sum-neg R n (λ j. sign R j ⊗ f (suc j)))
      ∙ sum_ext R n _ _ (λ j l. sym (neg-⊗ R (sign R j) (f (suc j)))))

  pub det-signed : (n : ℕ) (A : ℕ → ℕ → C) → det R (suc n) A ≡ sum R (suc n) (signed R n A)
  unfolding det signed
  det-signed n A = alt-sum (suc n) (λ j. A zero j ⊗ det R n (minor R A j))

  pub det-minor : (A : ℕ → ℕ → C) (row : ℕ) (cols : List ℕ) (j n : ℕ) → j < length cols
      → det R n (part A (row + 1) (remove cols j)) ≡ det R n (minor R (part A row cols) j)
  unfolding part
  det-minor A row cols j n inside =
      det_ext R n _ _ (λ i k li lk. let down : row + 1 + i ≡ row + suc i = omega arith in ap₂ A down (removed cols j inside k))

pub remainder-below : (p : ℕ) → 0 < p → (n : ℕ) {r : ℕ} → r ≡ n % p → r < p
remainder-below p pos n e = subst (λ (z : ℕ). z < p) (sym e) (mod-lt n pos)

module _ (p : ℕ) where
  open residues p use {C}

  pub val-below : 0 < p → (x : C) {r : ℕ} → r ≡ val p x → r < p
  val-below pos x e = subst (λ (z : ℕ). z < p) (sym e) (val-lt p pos x)

  pub det_none : 1 < p → (A : ℕ → ℕ → C) (n : ℕ) → n ≡ 0 → 1 ≡ val p (det (residues p) n A)
  unfolding det
  det_none more A zero e = sym (val-𝟙 p more)
  det_none more A (suc n) e = absurd (omega arith)

  pub record Summed (left : ℕ) (A : ℕ → ℕ → C) (s j : ℕ) : Type 0 where
    pub within : j ≤ left
    pub total : s ≡ val p (sum (residues p) j (signed (residues p) (left - 1) A))

  pub summed_first : (left : ℕ) (A : ℕ → ℕ → C) → Summed left A 0 0
  unfolding sum
  summed_first left A = record { within = omega arith; total = sym (val-𝟘 p) }

  pub summed-next : 0 < p → (left : ℕ) (A : ℕ → ℕ → C) (j : ℕ) {s t r : ℕ} → Summed left A s j → j < left
      → t ≡ val p (signed (residues p) (left - 1) A j) → r ≡ (s + t) % p → Summed left A r (j + 1)
  summed-next pos left A j hs more ht hr =
      record {
        within = omega arith;
        total =
            hr
            ∙ ap₂ (λ (x y : ℕ). (x + y) % p) hs.total ht
            ∙ sym (val-⊕ p pos _ _)
            ∙ ap (val p) (sym (sum-last (residues p) j (signed (residues p) (left - 1) A)))
            ∙ ap (λ (z : ℕ). val p (sum (residues p) z (signed (residues p) (left - 1) A))) (sym (add-one j));
      }

  pub summed-last : (left : ℕ) (A : ℕ → ℕ → C) (j : ℕ) {s : ℕ} → Summed left A s j → (left ≡ 0 → ⊥) → left ≤ j
      → s ≡ val p (det (residues p) left A)
  summed-last left A j h some all =
      h.total
      ∙ ap (λ (z : ℕ). val p (sum (residues p) z (signed (residues p) (left - 1) A))) end
      ∙ ap (val p) (sym (det-signed (residues p) (left - 1) A))
      ∙ ap (λ (z : ℕ). val p (det (residues p) z A)) whole
    where
      end : j ≡ suc (left - 1)
      end = omega (arith, h.within)

      whole : suc (left - 1) ≡ left
      whole = omega arith

-- the product q of an entry with its minor d, worked out from the columns without place j
module _ (p : ℕ) (pos : 0 < p) (t cols others : List ℕ) (row j : ℕ) (inside : j < length cols)
    (without-is : others ≡ remove cols j)
    (d q : ℕ) (hd : d ≡ val p (det (residues p) (length others) (part (cell p t) (row + 1) others)))
    (hq : q ≡ (get_or t (row * 6 + get_or cols j 0) 0 * d) % p) where
  open residues p use {C, ◌⊕◌, ◌⊗◌, ⊖◌, 𝟙}

  -- the term without its sign
  unsigned : C
  unsigned = part (cell p t) row cols zero j ⊗ det (residues p) (length cols - 1) (minor (residues p) (part (cell p t) row cols) j)

  minor_is : det (residues p) (length others) (part (cell p t) (row + 1) others) ≡ det (residues p) (length cols - 1) (minor (residues p) (part (cell p t) row cols) j)
  minor_is =
      let size : length (remove cols j) ≡ length cols - 1 = omega (arith, length-remove cols j inside) in
      ap (λ (l : List ℕ). det (residues p) (length l) (part (cell p t) (row + 1) l)) without-is
      ∙ ap (λ (n : ℕ). det (residues p) n (part (cell p t) (row + 1) (remove cols j))) size
      ∙ det-minor (residues p) (cell p t) row cols j (length cols - 1) inside

  product_is : res p q ≡ unsigned
  unfolding unsigned part cell
  product_is =
      product-res p pos (get_or t (row * 6 + get_or cols j 0) 0) d hq
      ∙ ap₂ (λ (y z : C). y ⊗ z) (ap (λ (i : ℕ). res p (get_or t (i * 6 + get_or cols j 0) 0)) (sym (add-zero row)))
      (ap (res p) hd ∙ res-val p _ ∙ minor_is)

  pub term_even : j % 2 ≡ 0 → q ≡ val p (signed (residues p) (length cols - 1) (part (cell p t) row cols) j)
  unfolding unsigned signed
  term_even even =
      sym (val-res_small (remainder-below p pos _ hq))
      ∙ ap (val p) (product_is ∙ sym (one-⊗ (residues p) unsigned) ∙ ap (λ (s : C). s ⊗ unsigned) (sym (sign_even (residues p) j even)))

  pub term_odd : {r : ℕ} → (j % 2 ≡ 0 → ⊥) → r ≡ (0 + (p - q)) % p → r ≡ val p (signed (residues p) (length cols - 1) (part (cell p t) row cols) j)
  unfolding unsigned signed
  term_odd odd hr =
      sym (val-res_small (remainder-below p pos _ hr))
      ∙ ap (val p) (difference-res p pos 0 q (le_of_lt (remainder-below p pos _ hq)) hr
      ∙ ap₂ (λ (y z : C). y ⊕ (⊖ z)) (res-zero p) product_is
      ∙ zero-⊕ (residues p) (⊖ unsigned)
      ∙ ap (λ (y : C). ⊖ y) (sym (one-⊗ (residues p) unsigned))
      ∙ sym (neg-⊗ (residues p) 𝟙 unsigned)
      ∙ ap (λ (s : C). s ⊗ unsigned) (sym (sign_odd (residues p) j odd)))

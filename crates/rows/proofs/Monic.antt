-- Making a row monic.
--
--   monic_code        the row divided by its last entry, as the code does it
--   monic-same        a row that ends in 1 is monic already
use Prim.Native.Nat.{ℕ, suc, ◌*◌, ◌-◌, ◌%◌, ◌<◌}
use native.Mathlib.Nat.{mod-eq_of_lt, mul-one}
use native.Mathlib.Omega.{arith}
use mathlib.Core.List.{List, [], ◌∷◌, map}
use mathlib.Core.Path.{◌≡◌, refl, sym, ap, ap₂, ◌∙◌}
use lib.ListN.{length, get_or}
use Rattle.residue.specs.Inverse.{inverse}
use Rattle.residue.specs.InverseLaws.{inverse_unique}
use Rattle.euclid.specs.RowLaws.{Below, Ended, ended-lead}
use Rattle.euclid.specs.Sequence.{monic}
use Rattle.rows.proofs.Bounds.{declared-minus}

module _ (p : ℕ) (r : List ℕ) (ended : Ended r) where
  pub monic_code : {f : ℕ} → f ≡ inverse p (get_or r (length r - 1) 0) → map (λ (x : ℕ). x * f % p) r ≡ monic p r
  unfolding monic
  monic_code {f} e =
      ap (λ (n : ℕ). map (λ (x : ℕ). x * n % p) r)
      (e ∙ ap (λ (n : ℕ). inverse p (get_or r n 0)) (declared-minus r) ∙ ap (inverse p) (sym (ended-lead r ended)))

  pub monic-same : Below p r → get_or r (length r - 1) 0 ≡ 1 → r ≡ monic p r
  monic-same below one = same r below ∙ monic_code one-inverse
    where
      two : 1 < p
      two = omega (arith, below (length r - 1))

      one-inverse : 1 ≡ inverse p (get_or r (length r - 1) 0)
      one-inverse = inverse_unique (get_or r (length r - 1) 0) two (ap (λ (n : ℕ). n * 1 % p) one ∙ mod-eq_of_lt two)

      same : (s : List ℕ) → Below p s → s ≡ map (λ (x : ℕ). x * 1 % p) s
      same [] h = refl
      same (x ∷ s) h =
          ap₂ (λ (n : ℕ) (l : List ℕ). n ∷ l) (sym (ap (λ (n : ℕ). n % p) (mul-one x) ∙ mod-eq_of_lt (h 0))) (same s (λ j. h (suc j)))

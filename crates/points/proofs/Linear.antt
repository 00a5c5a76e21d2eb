-- A coefficient of a list times y - x, computed from a list in which the entries above it are already the product's.
--
--   linear_above     above the lowest
--   linear_first     the lowest
use Prim.Native.Nat.{ℕ, zero, suc, ◌+◌, ◌*◌, ◌-◌, ◌%◌, ◌<◌}
use native.Mathlib.Omega.{arith}
use mathlib.Core.List.{List, ◌∷◌}
use mathlib.Core.Path.{◌≡◌, ap, ap₂, ◌∙◌}
use lib.ListN.{get_or}
use Rattle.points.specs.Step.{times_linear}
use Rattle.points.proofs.Stores.{Stored}

-- the entry one place below
one_below : (l : List ℕ) (j : ℕ) → 0 < j → get_or l (j - 1) 0 ≡ get_or (0 ∷ l) j 0
one_below l zero h = absurd (omega arith)
one_below l (suc j) h = let at : suc j - 1 ≡ j = omega arith in ap (λ (i : ℕ). get_or l i 0) at

module _ (p x : ℕ) {f : ℕ → ℕ} {lo hi : ℕ} {l k : List ℕ} (h : Stored f lo hi l k) {v : ℕ} where
  pub linear_above : (j : ℕ) → 0 < j → j < lo → v ≡ (get_or k (j - 1) 0 + (p - (x * get_or k j 0) % p)) % p → v ≡ times_linear p x l j
  unfolding times_linear
  linear_above j some b e =
      e
      ∙ ap₂ (λ (s t : ℕ). (s + (p - (x * t) % p)) % p) (h.below (j - 1) (omega arith) ∙ one_below l j some) (h.below j b)

  pub linear_first : 0 < lo → v ≡ (0 + (p - (x * get_or k 0 0) % p)) % p → v ≡ times_linear p x l 0
  unfolding times_linear
  linear_first b e = e ∙ ap (λ (t : ℕ). (0 + (p - (x * t) % p)) % p) (h.below 0 b)

-- Lengths, degrees, and rows whose entries are below p: joined and cut.
--
--   declared-minus    the declared degree, as the code reads it off the length
--   last_some         the last entry of an ended row is above 0
--   count_code        the steps of a division, as the code counts them
--   count_none        a row no longer than the divisor's degree takes none
--   count_constant    nor does a division by a constant
--   below-append      two such rows, one after the other
--   below-take        the first places of one
--   below-drop        its other places
use Prim.Native.Nat.{ℕ, zero, suc, ◌+◌, ◌-◌, ◌*◌, ◌<◌, ◌≤◌}
use native.Mathlib.Nat.{pos_of_ne-zero, zero-mul, mul-zero}
use native.Mathlib.Omega.{arith}
use mathlib.Core.List.{List, [], ◌∷◌, ◌++◌}
use mathlib.Core.Path.{◌≡◌, refl, sym, ap, ◌∙◌}
use lib.ListN.{length, get_or, take, drop}
use lib.Seq.{get_or-drop}
use Rattle.euclid.specs.Row.{declared}
use Rattle.euclid.specs.RowLaws.{Below, Ended}
use Rattle.euclid.specs.Division.{count}

pub declared-minus : (r : List ℕ) → length r - 1 ≡ declared r
unfolding declared
declared-minus [] = omega arith
declared-minus (x ∷ r) = omega arith

pub last_some : (r : List ℕ) → Ended r → 0 < get_or r (length r - 1) 0
last_some r h = rw (declared-minus r) (pos_of_ne-zero h.1)

pub count_code : (l : ℕ) (b : List ℕ) → (l - (length b - 1)) * (length b - 1) ≡ count l (declared b)
unfolding count
count_code l b = rw (declared-minus b) refl

pub count_none : (l d : ℕ) → l ≤ d → 0 ≡ count l d
unfolding count
count_none l d h = let e : 0 ≡ l - d = omega arith in sym (zero-mul d) ∙ ap (λ (n : ℕ). n * d) e

pub count_constant : (l : ℕ) {d : ℕ} → d ≡ 0 → 0 ≡ count l d
unfolding count
count_constant l {d} e = sym (ap (λ (n : ℕ). (l - d) * n) e ∙ mul-zero (l - d))

module _ {p : ℕ} where
  pub below-append : (s t : List ℕ) → Below p s → Below p t → Below p (s ++ t)
  below-append [] t hs ht j = ht j
  below-append (x ∷ s) t hs ht zero = hs zero
  below-append (x ∷ s) t hs ht (suc j) = below-append s t (λ i. hs (suc i)) ht j

  pub below-take : 0 < p → (n : ℕ) (s : List ℕ) → Below p s → Below p (take n s)
  below-take pos zero s h j = pos
  below-take pos (suc n) [] h j = pos
  below-take pos (suc n) (x ∷ s) h zero = h zero
  below-take pos (suc n) (x ∷ s) h (suc j) = below-take pos n s (λ i. h (suc i)) j

  pub below-drop : (n : ℕ) (s : List ℕ) → Below p s → Below p (drop n s)
  below-drop n s h j = rw (get_or-drop n s j 0) (h (n + j))

-- The numbers 2 to 7 of an opening: all that is judged before the usable points are counted.
--
--   shape_number     open_number without its last test
--   open-shape      open_number is shape_number, then 8 where usable points are scarce
use Rattle.std.specs.Prelude.{ℕ, Bool, true, false, ◌||◌, List, ◌≡◌, refl}
use Rattle.scope.specs.Pair.{tables}
use Rattle.scope.specs.Number.{◌gives◌otherwise◌, ◌then◌, outside, composite, too_high, misfit, over, no_lead, scarce, open_number}

unfoldable pub shape_number : (p m e n f : ℕ) → List ℕ → List ℕ → ℕ
shape_number p m e n f s t =
    outside p gives 2 otherwise
    composite p gives 3 otherwise
    (too_high m || too_high e || too_high n || too_high f) gives 4 otherwise
    (misfit m e s || misfit n f t) gives 5 otherwise
    (over p s || over p t) gives 6 otherwise
    (no_lead m e s || no_lead n f t) gives 7 otherwise 0

-- six refusals and what is judged after them
six : (t₂ t₃ t₄ t₅ t₆ t₇ : Bool) (r : ℕ) →
    (t₂ gives 2 otherwise t₃ gives 3 otherwise t₄ gives 4 otherwise t₅ gives 5 otherwise t₆ gives 6 otherwise t₇ gives 7 otherwise r) ≡
    ((t₂ gives 2 otherwise t₃ gives 3 otherwise t₄ gives 4 otherwise t₅ gives 5 otherwise t₆ gives 6 otherwise t₇ gives 7 otherwise 0) then r)
unfolding ◌gives◌otherwise◌ ◌then◌
six true t₃ t₄ t₅ t₆ t₇ r = refl
six false true t₄ t₅ t₆ t₇ r = refl
six false false true t₅ t₆ t₇ r = refl
six false false false true t₆ t₇ r = refl
six false false false false true t₇ r = refl
six false false false false false true r = refl
six false false false false false false r = refl

pub open-shape : (p m e n f : ℕ) (s t : List ℕ) →
    open_number p m e n f s t ≡ (shape_number p m e n f s t then (scarce (tables p m e n f s t) gives 8 otherwise 0))
unfolding open_number shape_number
open-shape p m e n f s t = six (outside p) (composite p) _ _ _ _ _

-- The scope's figures K2 to K11, proved together of the definitions.
--
--   Figure              one figure: two rows, two tables, or two tables that are refused
--   Holds               what a figure says of the definitions
--   figures             K2 to K11
--   figures_hold        they all hold
use Rattle.std.specs.Prelude.{ℕ, ◌+◌, List, [], ◌∷◌, ◌≡◌, refl}
use Rattle.residue.specs.Residue.{val}
use Rattle.euclid.specs.Row.{row_determinant}
use Rattle.euclid.specs.Sequence.{row_resultant, row_steps}
use Rattle.scope.specs.Pair.{tables, bound, coefficient}
use Rattle.scope.specs.Point.{tabulate, usables}
use Rattle.scope.specs.Number.{open_number}
use Rattle.scope.specs.Computing.{computing}

pub data Figure : Type 0 where
  -- p, the two rows, the resultant, the steps
  rows : ℕ → List ℕ → List ℕ → ℕ → ℕ → Figure
  -- p, the degrees of A in x and y and of B in x and y, the two tables, D, the coefficients
  pair : (p m e n f : ℕ) → List ℕ → List ℕ → ℕ → List ℕ → Figure
  -- the same input, the number that the opening answers, the usable points
  refused : (p m e n f : ℕ) → List ℕ → List ℕ → ℕ → List ℕ → Figure

abbrev pub Holds : Figure → Type 0
Holds (rows p a b v k) = (val p (row_determinant p a b) ≡ v) × (val p (row_resultant p a b) ≡ v) × (row_steps p a b ≡ k)
Holds (pair p m e n f s t D cs) = (bound (tables p m e n f s t) ≡ D) × (tabulate (D + 1) (coefficient (tables p m e n f s t)) ≡ cs) × (open_number p m e n f s t ≡ 0)
Holds (refused p m e n f s t r us) = (open_number p m e n f s t ≡ r) × (usables (tables p m e n f s t) p ≡ us)

abbrev pub AllHold : List Figure → Type 0
AllHold [] = Unit {0}
AllHold (g ∷ gs) = Holds g × AllHold gs

abbrev pub figures : List Figure
figures =
    rows 7 (1 ∷ 0 ∷ 0 ∷ 1 ∷ []) (5 ∷ 1 ∷ []) 5 3
    ∷ rows 7 (5 ∷ 1 ∷ []) (1 ∷ 0 ∷ 0 ∷ 1 ∷ []) 2 3
    ∷ rows 5 (1 ∷ 0 ∷ 0 ∷ 0 ∷ 1 ∷ []) (1 ∷ 0 ∷ 1 ∷ []) 4 6
    ∷ rows 7 (6 ∷ 0 ∷ 1 ∷ []) (6 ∷ 1 ∷ []) 0 2
    ∷ rows 7 (3 ∷ []) (4 ∷ []) 1 0
    ∷ rows 7 (3 ∷ []) (1 ∷ 0 ∷ 1 ∷ []) 2 0
    ∷ pair 5 2 1 1 0 (0 ∷ 1 ∷ 0 ∷ 0 ∷ 1 ∷ 0 ∷ []) (1 ∷ 1 ∷ []) 1 (1 ∷ 1 ∷ [])
    ∷ pair 3 1 1 1 0 (1 ∷ 0 ∷ 0 ∷ 1 ∷ []) (1 ∷ 1 ∷ []) 1 (2 ∷ 1 ∷ [])
    ∷ refused 2 1 1 1 0 (1 ∷ 0 ∷ 0 ∷ 1 ∷ []) (1 ∷ 1 ∷ []) 8 (1 ∷ [])
    ∷ pair 7 1 1 1 1 (0 ∷ 1 ∷ 1 ∷ 0 ∷ []) (0 ∷ 6 ∷ 1 ∷ 0 ∷ []) 2 (0 ∷ 5 ∷ 0 ∷ [])
    ∷ []

pub figures_hold : AllHold figures
unfolding computing
figures_hold = (
  (refl, refl, refl),
  (
    (refl, refl, refl),
    (
      (refl, refl, refl),
      (
        (refl, refl, refl),
        (
          (refl, refl, refl),
          (
            (refl, refl, refl),
            ((refl, refl, refl), ((refl, refl, refl), ((refl, refl), ((refl, refl, refl), tt)))),
          ),
        ),
      ),
    ),
  ),
)

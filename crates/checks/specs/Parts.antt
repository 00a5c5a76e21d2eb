-- The chains of refusals, cut into parts of two or three.
--
--   modulus_number        2 and 3: of a modulus
--   lengths_number        4 and 5: of the lengths of two rows
--   entries_number        6 and 7: of the entries of two rows
--   division_rows_number   4, 6 and 15: of the rows of a division
--   tables_number         5 to 7: of two tables whose degrees are at most 16
--   row_parts, division_parts, shape_parts   a chain is its parts, one after the other
use Rattle.std.specs.Prelude.{ℕ, suc, Bool, true, false, ◌||◌, List, ◌≡◌, refl}
use Rattle.std.proofs.Common.{ap, ◌∙◌}
use Rattle.scope.specs.Number.{◌gives◌otherwise◌, ◌then◌, outside, composite, too_high, too_long, empty, misfit, over, no_lead, unended, row_number, division_number}
use Rattle.checks.specs.Shape.{shape_number}

unfoldable pub modulus_number : ℕ → ℕ
modulus_number p =
    outside p gives 2 otherwise
    composite p gives 3 otherwise 0

unfoldable pub lengths_number : List ℕ → List ℕ → ℕ
lengths_number a b =
    (too_long a || too_long b) gives 4 otherwise
    (empty a || empty b) gives 5 otherwise 0

unfoldable pub entries_number : ℕ → List ℕ → List ℕ → ℕ
entries_number p a b =
    (over p a || over p b) gives 6 otherwise
    (unended a || unended b) gives 7 otherwise 0

unfoldable pub division_rows_number : ℕ → List ℕ → List ℕ → ℕ
division_rows_number p row b =
    (too_long row || too_long b) gives 4 otherwise
    (over p row || over p b) gives 6 otherwise
    unended b gives 15 otherwise 0

unfoldable pub tables_number : (p m e n f : ℕ) → List ℕ → List ℕ → ℕ
tables_number p m e n f s t =
    (misfit m e s || misfit n f t) gives 5 otherwise
    (over p s || over p t) gives 6 otherwise
    (no_lead m e s || no_lead n f t) gives 7 otherwise 0

-- two refusals and what is judged after them
two : (t u : Bool) (q r s : ℕ) → (t gives suc q otherwise u gives suc r otherwise s) ≡ ((t gives suc q otherwise u gives suc r otherwise 0) then s)
unfolding ◌gives◌otherwise◌ ◌then◌
two true u q r s = refl
two false true q r s = refl
two false false q r s = refl

modulus_then : (p s : ℕ) → (outside p gives 2 otherwise composite p gives 3 otherwise s) ≡ (modulus_number p then s)
unfolding modulus_number
modulus_then p s = two (outside p) (composite p) 1 2 s

pub row_parts : (p : ℕ) (a b : List ℕ) → row_number p a b ≡ (modulus_number p then lengths_number a b then entries_number p a b)
unfolding row_number lengths_number entries_number
row_parts p a b = modulus_then p _ ∙ ap (λ (s : ℕ). modulus_number p then s) (two (too_long a || too_long b) (empty a || empty b) 3 4 _)

pub division_parts : (p : ℕ) (row b : List ℕ) → division_number p row b ≡ (modulus_number p then division_rows_number p row b)
unfolding division_number division_rows_number
division_parts p row b = modulus_then p _

pub shape_parts : (p m e n f : ℕ) (s t : List ℕ) →
    shape_number p m e n f s t ≡ (modulus_number p then (too_high m || too_high e || too_high n || too_high f) gives 4 otherwise tables_number p m e n f s t)
unfolding shape_number tables_number
shape_parts p m e n f s t = modulus_then p _

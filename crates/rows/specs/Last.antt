-- The last row of the monic remainder sequence, and where the work leaves it.
--
--   last_row rs              the last of the rows rs
--   row_sequence p a b       the sequence of two rows in either order: of b and a where a is shorter
--   swapped place            the place, seen from the two work rows in the other order
--   chosen place u w         the work row of that place: u for the first, w for the second
--   entries place            how many entries stand there
--   Lies row u w place       row is the front of its work row, so many entries long
use Rattle.std.specs.Prelude.{ℕ, ◌≤◌, List, [], ◌∷◌, ◌≡◌, ltb, length, take}
use Rattle.euclid.specs.Row.{degree}
use Rattle.euclid.specs.Sequence.{sequence}
use Rattle.rows.specs.Which.{pick}
use Rattle.rows.specs.declared.Place.{Place}
use Rattle.rows.specs.declared.Place.TheVariants.{First, Second}

unfoldable pub last_row : List (List ℕ) → List ℕ
last_row [] = []
last_row (r ∷ []) = r
last_row (r ∷ r' ∷ rs) = last_row (r' ∷ rs)

unfoldable pub row_sequence : ℕ → List ℕ → List ℕ → List (List ℕ)
row_sequence p a b = pick (ltb (degree a) (degree b)) (sequence p b a) (sequence p a b)

abbrev pub swapped : Place → Place
swapped (First len) = Second len
swapped (Second len) = First len

abbrev pub chosen : Place → List ℕ → List ℕ → List ℕ
chosen (First len) u w = u
chosen (Second len) u w = w

abbrev pub entries : Place → ℕ
entries (First len) = len
entries (Second len) = len

pub record Lies (row u w : List ℕ) (place : Place) : Type 0 where
  pub within : entries place ≤ length (chosen place u w)
  pub is : take (entries place) (chosen place u w) ≡ row

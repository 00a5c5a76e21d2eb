-- Which of two rows divides, by their lengths after trimming.
--
--   first?_yes        a is lower where its true row is shorter
--   first?_no         and elsewhere it is not
--   lower_first       where a is lower, lower a b is a's true row
--   lower_second      elsewhere it is b's
use Rattle.std.specs.Prelude.{ℕ, ◌<◌, ◌≤◌, Bool, true, false, List, ◌≡◌, length}
use Rattle.std.proofs.Math.Path.{ap}
use borrow.Author.Tests.{lt-ltb, le-ltb}
use Rattle.euclid.specs.Row.{trim}
use Rattle.rows.specs.Which.{pick, first?, lower}

module _ (a b : List ℕ) where
  pub first?_yes : length (trim a) < length (trim b) → first? a b ≡ true
  unfolding first?
  first?_yes = lt-ltb (length (trim a)) (length (trim b))

  pub first?_no : length (trim b) ≤ length (trim a) → first? a b ≡ false
  unfolding first?
  first?_no = le-ltb (length (trim a)) (length (trim b))

  pub lower_first : length (trim a) < length (trim b) → lower a b ≡ trim a
  unfolding lower
  lower_first h = ap (λ (t : Bool). pick t (trim a) (trim b)) (first?_yes h)

  pub lower_second : length (trim b) ≤ length (trim a) → lower a b ≡ trim b
  unfolding lower
  lower_second h = ap (λ (t : Bool). pick t (trim a) (trim b)) (first?_no h)

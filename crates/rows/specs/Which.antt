-- Which of two rows divides: the one of lower true degree. Lengths are compared after trimming, so that an all-zero or
-- empty row is lower than all others; on a tie the answer is the second.
--
--   pick t x y        x where t is true, else y
--   first? a b        whether a is lower than b
--   lower a b         the lower one, cut after its last nonzero entry
use Rattle.std.specs.Prelude.{ℕ, Bool, true, false, List, ltb, length}
use Rattle.euclid.specs.Row.{trim}

abbrev pub pick : {A : Type 0} → Bool → A → A → A
pick true x y = x
pick false x y = y

unfoldable pub first? : List ℕ → List ℕ → Bool
first? a b = ltb (length (trim a)) (length (trim b))

unfoldable pub lower : List ℕ → List ℕ → List ℕ
lower a b = pick (first? a b) (trim a) (trim b)

-- One step of Newton's rule on lists of numbers, lowest coefficient first.
--
--   value_of p n l x            the value at x, modulo p, of the polynomial whose coefficients are the first n entries of l
--   weight_of p n v l t x       what l misses of v at x, divided by the value of t there; n coefficients of each
--   plus_multiple p c t l k     the coefficient of y^k of l + c t
--   times_linear p x t k        the coefficient of y^k of t times y - x
use Rattle.std.specs.Prelude.{ℕ, ◌+◌, ◌*◌, ◌-◌, ◌%◌, List, ◌∷◌, get_or}
use Rattle.residue.specs.Residue.{residues, res, val}
use Rattle.residue.specs.Inverse.{inverse}
use Rattle.polynomial.specs.Value.{value}

unfoldable pub value_of : ℕ → ℕ → List ℕ → ℕ → ℕ
value_of p n l x = val p (value (residues p) n (λ j. res p (get_or l j 0)) (res p x))

unfoldable pub weight_of : ℕ → ℕ → ℕ → List ℕ → List ℕ → ℕ → ℕ
weight_of p n v l t x = ((v + (p - value_of p n l x)) % p * inverse p (value_of p n t x)) % p

unfoldable pub plus_multiple : ℕ → ℕ → List ℕ → List ℕ → ℕ → ℕ
plus_multiple p c t l k = (c * get_or t k 0 + get_or l k 0) % p

unfoldable pub times_linear : ℕ → ℕ → List ℕ → ℕ → ℕ
times_linear p x t k = (get_or (0 ∷ t) k 0 + (p - (x * get_or t k 0) % p)) % p

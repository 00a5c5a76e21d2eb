-- Division of rows modulo p.
--
--   IsDivision p a b q r    a = q b + r, coefficient by coefficient, with r shorter than b's degree allows
--   less p q s t            the row s less q times the row t, entry by entry, modulo p
--   divide p b low up       remainder and quotient of the row low ++ up by b, where up has as many entries as b's degree:
--                           one entry of low at a time, from the highest
--   remainder p a b         the remainder of a by b: places 0 to d-1 of the work row
--   quotient p a b          the quotient: places d to L-1
--   count L d               coefficient steps of a division of a row of length L by one of degree d
use Rattle.std.specs.Prelude.{ℕ, ◌+◌, ◌-◌, ◌*◌, ◌%◌, List, [], ◌∷◌, ◌≡◌, length, get_or, take, drop}
use Rattle.ring.specs.Ring.{Ring}
use Rattle.ring.specs.Sum.{sum}
use Rattle.residue.specs.Residue.{residues}
use Rattle.residue.specs.Inverse.{inverse}
use Rattle.sylvester.specs.Sylvester.{moved}
use Rattle.euclid.specs.Row.{coef, declared}

unfoldable pub less : (p q : ℕ) → List ℕ → List ℕ → List ℕ
less p q [] t = []
less p q (x ∷ s) [] = x ∷ s
less p q (x ∷ s) (y ∷ t) = (x + (p - q * y % p)) % p ∷ less p q s t

module _ (p : ℕ) (b : List ℕ) where
  -- the next quotient entry, where the row begins with s
  unfoldable pub entry : List ℕ → ℕ
  entry s = get_or s (declared b) 0 * inverse p (get_or b (declared b) 0) % p

  -- the remainder, where the row begins with s and s has one entry more than the divisor's degree
  unfoldable pub rest : List ℕ → List ℕ
  rest s = less p (entry s) (take (declared b) s) (take (declared b) b)

  unfoldable pub divide : List ℕ → List ℕ → List ℕ × List ℕ
  divide [] up = (up, [])
  divide (x ∷ low) up = let d = divide low up in (rest (x ∷ d.0), entry (x ∷ d.0) ∷ d.1)

unfoldable pub remainder : (p : ℕ) → List ℕ → List ℕ → List ℕ
remainder p a b = (divide p b (take (length a - declared b) a) (drop (length a - declared b) a)).0

unfoldable pub quotient : (p : ℕ) → List ℕ → List ℕ → List ℕ
quotient p a b = (divide p b (take (length a - declared b) a) (drop (length a - declared b) a)).1

unfoldable pub count : ℕ → ℕ → ℕ
count L d = (L - d) * d

pub record IsDivision (p : ℕ) (a b q r : List ℕ) : Type 0 where
  pub quotient-length : length q ≡ length a - declared b
  pub remainder-length : length r ≡ length a - length q
  pub equation : (j : ℕ)
      → coef p a j
      ≡ Ring.◌⊕◌ (residues p) (coef p r j) (sum (residues p) (length q) (λ k. Ring.◌⊗◌ (residues p) (coef p q k) (moved (residues p) k (coef p b) j)))

-- The monic remainder sequence and the resultant formula, in the words of the scope.
--
--   monic p r             r divided by its lead
--   sequence p a b        r_1 = a, r_2 = b, .., r_l, the last nonzero one, for rows with nonzero last entries, b no longer than a
--   turns p ns            v: the sum of n_i n_(i+1) for i = 1 .. l-2, of the degrees n_1 .. n_l
--   leads p rs            the product of lead(r_i)^(n_(i-1)) for i = 2 .. l
--   formula p rs          0 where n_l > 0, otherwise (-1)^v times that product
--   steps ns              the sum of (n_i - n_(i+1) + 1) n_(i+1): the coefficient steps of all divisions
--   row_resultant p a b    the formula, for a shorter than b after a swap with its sign (-1)^(mn)
--   row_steps p a b        the steps of that sequence
use Rattle.std.specs.Prelude.{ℕ, zero, suc, ◌+◌, ◌-◌, ◌*◌, ◌%◌, Bool, true, false, List, [], ◌∷◌, map, length, ltb}
use Rattle.ring.specs.Ring.{pow, sign}
use Rattle.residue.specs.Residue.{residues, res}
use Rattle.residue.specs.Inverse.{inverse}
use Rattle.euclid.specs.Row.{trim, degree, lead}
use Rattle.euclid.specs.Division.{remainder}

unfoldable pub monic : ℕ → List ℕ → List ℕ
monic p r = map (λ x. x * inverse p (lead r) % p) r

-- the rows that follow: the divisor, while it is not empty, and what comes of dividing by it
unfoldable pub following : ℕ → ℕ → List ℕ → List ℕ → List (List ℕ)
following p zero before r = []
following p (suc k) before [] = []
following p (suc k) before (x ∷ r) =
    let d = monic p (x ∷ r) in (x ∷ r) ∷ following p k d (trim (remainder p before d))

unfoldable pub sequence : ℕ → List ℕ → List ℕ → List (List ℕ)
sequence p a b = a ∷ following p (length b) a b

unfoldable pub turns : List ℕ → ℕ
turns [] = 0
turns (n ∷ []) = 0
turns (n ∷ n' ∷ []) = 0
turns (n ∷ n' ∷ n'' ∷ ns) = n * n' + turns (n' ∷ n'' ∷ ns)

unfoldable pub steps : List ℕ → ℕ
steps [] = 0
steps (n ∷ []) = 0
steps (n ∷ n' ∷ ns) = (n - n' + 1) * n' + steps (n' ∷ ns)

unfoldable pub final : List ℕ → ℕ
final [] = 0
final (n ∷ []) = n
final (n ∷ n' ∷ ns) = final (n' ∷ ns)

module _ (p : ℕ) where
  open residues p use {C, ◌⊗◌, 𝟘, 𝟙}

  unfoldable pub leads : List (List ℕ) → C
  leads [] = 𝟙
  leads (r ∷ []) = 𝟙
  leads (r ∷ r' ∷ rs) = pow (residues p) (res p (lead r')) (degree r) ⊗ leads (r' ∷ rs)

  -- by the degree of the last row
  unfoldable pub by_last : ℕ → C → C
  by_last zero x = x
  by_last (suc n) x = 𝟘

  unfoldable pub formula : List (List ℕ) → C
  formula rs = by_last (final (map degree rs)) (sign (residues p) (turns (map degree rs)) ⊗ leads rs)

  -- by whether the first row is shorter
  unfoldable pub by_size : Bool → List ℕ → List ℕ → C
  by_size true a b = sign (residues p) (degree a * degree b) ⊗ formula (sequence p b a)
  by_size false a b = formula (sequence p a b)

  unfoldable pub row_resultant : List ℕ → List ℕ → C
  row_resultant a b = by_size (ltb (degree a) (degree b)) a b

unfoldable pub steps_by_size : ℕ → Bool → List ℕ → List ℕ → ℕ
steps_by_size p true a b = steps (map degree (sequence p b a))
steps_by_size p false a b = steps (map degree (sequence p a b))

unfoldable pub row_steps : ℕ → List ℕ → List ℕ → ℕ
row_steps p a b = steps_by_size p (ltb (degree a) (degree b)) a b

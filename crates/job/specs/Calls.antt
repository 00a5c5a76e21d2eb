-- What the calls on a sound job answer and leave behind.
--
--   interpolant j          the polynomial through the kept pairs
--   agrees j a             its value at a is the value that would be kept there
--   offer_number j a        the number of a single offer: 10, 12, 11, then 0 (kept), or 1 or 13 (surplus)
--   offered j a            the job afterwards
--   lot_answers j xs        the answers to the points of a lot, left to right
--   lotted j xs            the job after them
--   reading j entries      the number of a read into so many entries: 14, 9, 0
--   wanted j               how many points are still wanted
--   written P              the entries that a read writes: the determinant's coefficients, lowest first
--   nonzero P k            coefficient k of the determinant is not 0
--   degree_of P             the determinant's degree; 0 for the zero polynomial
--   is_zero P               the determinant is the zero polynomial
use Rattle.std.specs.Prelude.{ℕ, ◌+◌, ◌-◌, Bool, cond, not, List, [], ◌∷◌, ltb, eqb, get_or}
use Rattle.ring.specs.Ring.{Ring}
use Rattle.residue.specs.Residue.{residues, res, val}
use Rattle.residue.specs.Inverse.{inv}
use Rattle.polynomial.specs.Value.{value}
use Rattle.polynomial.specs.Interpolation.{newton}
use Rattle.scope.specs.Pair.{Pair, bound, some, largest, coefficient}
use Rattle.scope.specs.Point.{tabulate, kept, needed, room}
use Rattle.scope.specs.Number.{point_number, ◌then◌, read_number}
use Rattle.job.specs.declared.Job.{Job}
use Rattle.job.specs.Job.{pair_of, kept_points, stored}

unfoldable pub interpolant : (j : Job) → ℕ → Ring.C (residues j.p)
interpolant j =
    newton (residues j.p) (inv j.p) (λ i. res j.p (get_or j.points i 0)) (λ i. res j.p (get_or j.values i 0)) (needed (pair_of j))

unfoldable pub agrees : Job → ℕ → Bool
agrees j a = eqb (val j.p (value (residues j.p) (needed (pair_of j)) (interpolant j) (res j.p a))) (kept (pair_of j) a)

unfoldable pub offer_number : Job → ℕ → ℕ
offer_number j a =
    point_number (pair_of j) (kept_points j) a then
    cond (ltb j.count (needed (pair_of j))) 0 (cond (agrees j a) 1 13)

unfoldable pub offered : Job → ℕ → Job
offered j a = cond (eqb (offer_number j a) 0) (stored j a) j

unfoldable pub lot_answers : Job → List ℕ → List ℕ
lot_answers j [] = []
lot_answers j (a ∷ xs) = offer_number j a ∷ lot_answers (offered j a) xs

unfoldable pub lotted : Job → List ℕ → Job
lotted j [] = j
lotted j (a ∷ xs) = lotted (offered j a) xs

unfoldable pub reading : Job → ℕ → ℕ
reading j entries = read_number (pair_of j) j.count entries

unfoldable pub wanted : Job → ℕ
wanted j = needed (pair_of j) - j.count

unfoldable pub written : Pair → List ℕ
written P = tabulate (room P) (coefficient P)

unfoldable pub nonzero : Pair → ℕ → Bool
nonzero P k = not (eqb (coefficient P k) 0)

unfoldable pub degree_of : Pair → ℕ
degree_of P = largest (bound P) (nonzero P)

unfoldable pub is_zero : Pair → Bool
is_zero P = not (some (bound P + 1) (nonzero P))

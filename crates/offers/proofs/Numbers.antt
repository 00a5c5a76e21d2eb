-- The number of a single offer, and the job after it, by the tests that the code makes.
--
--   number_in_turn    a refusal, or whether points are wanted, or whether the surplus point agrees
--   job_after         the job with the point kept, or as it was
--   kept_lent         the value kept at a point of the lent pair is that of the job's
--   offering          these, for the tests in turn
use Prim.Native.Nat.{ℕ}
use mathlib.Core.Bool.{cond}
use mathlib.Core.Path.{◌≡◌, refl, ap}
use lib.Dec.{ltb, eqb}
use Rattle.std.proofs.lemmas.Bool.Decides.{nat_tests}
use Rattle.checks.specs.Refusal.{then_cond}
use Rattle.checks.specs.Outcome.{number_of_bounds}
use Rattle.points.specs.declared.Pair.{Pair}
use Rattle.points.specs.Lent.{pair_at}
use Rattle.offers.specs.Lent.{IsPairOf, lent_pair}
use Rattle.offers.proofs.Record.{few_kept, slots}
use Rattle.scope.specs.Point.{kept, needed}
use Rattle.scope.specs.Number.{point_number}
use Rattle.job.specs.declared.Job.{Job}
use Rattle.job.specs.Job.{pair_of, kept_points, stored}
use Rattle.job.specs.Calls.{agrees, offer_number, offered}

pub number_in_turn : (j : Job) (a : ℕ)
    → offer_number j a ≡ cond (eqb (point_number (pair_of j) (kept_points j) a) 0) (cond (ltb j.count (needed (pair_of j))) 0 (cond (agrees j a) 1 13)) (point_number (pair_of j) (kept_points j) a)
unfolding offer_number
number_in_turn j a = then_cond _ _

pub job_after : (j : Job) (a : ℕ) → offered j a ≡ cond (eqb (offer_number j a) 0) (stored j a) j
unfolding offered
job_after j a = refl

pub kept_lent : (j : Job) (P : Pair) (a : ℕ) → IsPairOf j P → kept (pair_at P) a ≡ kept (pair_of j) a
kept_lent j P a h = ap (λ Q. kept Q a) (lent_pair h)

pub ruleset offering = (nat_tests, number_in_turn, job_after, kept_lent, number_of_bounds, few_kept, slots)

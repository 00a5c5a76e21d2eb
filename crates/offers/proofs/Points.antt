-- The number that a point offered to a sound job is answered, by the tests that the code makes.
--
--   admitted       a refusal of the point, in the scope's order, or none
--   usable_lent    a point is usable to the lent pair where it is to the job's
--   admitting      these, for the tests in turn
use Rattle.std.proofs.Common.{ℕ, cond, not, ◌≡◌, ap, leb}
use Rattle.std.proofs.lemmas.Bool.Decides.{nat_tests}
use Rattle.checks.specs.Refusal.{gives_cond}
use Rattle.scope.specs.Point.{usable}
use Rattle.scope.specs.Number.{among, point_number}
use Rattle.points.specs.declared.Pair.{Pair}
use Rattle.points.specs.Lent.{pair_at}
use Rattle.job.specs.declared.Job.{Job}
use Rattle.job.specs.Job.{pair_of, kept_points}
use Rattle.offers.specs.Lent.{IsPairOf, lent_pair}
use Rattle.offers.specs.Among.{among_any}

pub admitted : (j : Job) (a : ℕ)
    → point_number (pair_of j) (kept_points j) a ≡ cond (leb j.p a) 10 (cond (among a (kept_points j)) 12 (cond (not (usable (pair_of j) a)) 11 0))
unfolding point_number pair_of
admitted j a = simp gives_cond

pub usable_lent : (j : Job) (P : Pair) (a : ℕ) → IsPairOf j P → usable (pair_at P) a ≡ usable (pair_of j) a
usable_lent j P a h = ap (λ Q. usable Q a) (lent_pair h)

pub ruleset admitting = (nat_tests, admitted, among_any, usable_lent)

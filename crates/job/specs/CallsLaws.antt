-- The laws of what the calls on a job answer.
--
--   offer_low   the number of a single offer is at most 13, so it fits the answer byte of a lot
use Rattle.std.specs.Prelude.{ℕ, zero, suc, ◌≤◌, Bool, true, false, not, leb}
use Rattle.std.proofs.Common.{arith}
use Rattle.std.proofs.lemmas.Bool.{cond_both}
use lib.Dec.{ltb}
use Rattle.scope.specs.Point.{needed, usable}
use Rattle.scope.specs.Number.{among, point_number, ◌then◌, ◌gives◌otherwise◌}
use Rattle.job.specs.declared.Job.{Job}
use Rattle.job.specs.Job.{pair_of, kept_points}
use Rattle.job.specs.Calls.{agrees, offer_number}

-- numbers no larger than k
module _ {k : ℕ} where
  then_low : (r s : ℕ) → r ≤ k → s ≤ k → (r then s) ≤ k
  unfolding ◌then◌
  then_low zero s hr hs = hs
  then_low (suc r) s hr hs = hr

  gives_low : (t : Bool) (r s : ℕ) → r ≤ k → s ≤ k → (t gives r otherwise s) ≤ k
  unfolding ◌gives◌otherwise◌
  gives_low true r s hr hs = hr
  gives_low false r s hr hs = hs

pub offer_low : (j : Job) (a : ℕ) → offer_number j a ≤ 13
unfolding offer_number point_number
offer_low j a =
    then_low _ _
    (gives_low (leb (pair_of j).p a) 10 _ (omega arith)
    (gives_low (among a (kept_points j)) 12 _ (omega arith)
    (gives_low (not (usable (pair_of j) a)) 11 0 (omega arith) (omega arith))))
    (cond_both (ltb j.count (needed (pair_of j))) 0 _ (λ n. n ≤ 13) (λ _. omega arith)
    (λ _. cond_both (agrees j a) 1 13 (λ n. n ≤ 13) (λ _. omega arith) (λ _. omega arith)))

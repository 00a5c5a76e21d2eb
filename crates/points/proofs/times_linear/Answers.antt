-- `points::times_linear`: from the top down each turn stores one coefficient of the product; the entries it reads are
-- still those that came in.
use native.Mathlib.Omega.{arith}
use mathlib.Core.Path.{refl}
use Rattle.points.proofs.Stores.{stored_down, stored_all}
use Rattle.points.proofs.Linear.{linear_above, linear_first}
use Rattle.points.proofs.times_linear.Goals as goal

pub loop-k-preserved : goal.loop-k-preserved
loop-k-preserved c = (
  omega arith,
  stored_down _ _ c.loop-k.invariant.1 (omega arith) (omega arith) (omega arith)
      (linear_above _ _ c.loop-k.invariant.1 _ (omega arith) (omega arith) c.mul_sub.ensures),
)

pub returns : goal.returns
returns c =
    stored_all _
    (stored_down _ 0 c.loop-k.invariant.1 (omega arith) (omega arith) (omega arith)
    (linear_first _ _ c.loop-k.invariant.1 (omega arith) c.mul_sub-2.ensures))
    refl

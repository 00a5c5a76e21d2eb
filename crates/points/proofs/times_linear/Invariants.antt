-- `points::times_linear`: from the top down each turn stores one coefficient of the product; the entries it reads are
-- still those that came in.
use Prim.Native.Nat.{◌<◌}
use lib.ListN.{length}
use Rattle.points.proofs.Stores.{Stored}
use Rattle.points.specs.Step.{times_linear}
use Rattle.points.proofs.times_linear.Given as goal

abbrev pub invariant-loop-k : goal.invariant-loop-k
invariant-loop-k l = (0 < l.k) × Stored (times_linear l.p.value l.x l.initial.t) l.k (length l.initial.t) l.initial.t l.t

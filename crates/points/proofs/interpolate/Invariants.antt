-- `points::interpolate`: each turn takes in one point.
use lib.ListN.{length}
use Rattle.points.proofs.Newton.{Reached}
use Rattle.points.proofs.interpolate.Given as goal

abbrev pub invariant-loop-n : goal.invariant-loop-n
invariant-loop-n l = Reached l.p.value (length l.initial.out) l.xs l.vs l.n l.out l.product

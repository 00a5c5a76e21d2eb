-- `points::add_multiple`: each turn writes one coefficient.
use Rattle.points.specs.Step.{plus_multiple}
use Rattle.points.proofs.Stores.{Stored}
use Rattle.points.proofs.add_multiple.Given as goal

abbrev pub invariant-loop-k : goal.invariant-loop-k
invariant-loop-k l = Stored (plus_multiple l.p.value l.c l.t l.initial.out) 0 l.k l.initial.out l.out

-- `reads::filled`: each turn offers the next number.
use Rattle.reads.proofs.Filling.{Filling}
use Rattle.reads.proofs.filled.Given as goal

abbrev pub invariant-loop-a : goal.invariant-loop-a
invariant-loop-a l = Filling l.fn.fresh.job l.a l.j.job

-- `rows::reduce`: each turn divides one place more, from the top of the quotient down.
use Rattle.rows.proofs.Work.{Work}
use Rattle.rows.proofs.reduce.Given as goal

abbrev pub invariant-loop-k : goal.invariant-loop-k
invariant-loop-k l = Work l.p l.d l.initial.row l.b l.row l.k

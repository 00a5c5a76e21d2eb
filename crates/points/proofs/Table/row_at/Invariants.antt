-- `points::Table::row_at`: each turn writes the value of one row.
use Rattle.scope.specs.Pair.{term}
use Rattle.scope.specs.Point.{value_at}
use Rattle.points.proofs.Stores.{Stored}
use Rattle.points.proofs.Table.row_at.Given as goal

abbrev pub invariant-loop-i : goal.invariant-loop-i
invariant-loop-i l = Stored (λ k. value_at l.p.value 16 (term 16 l.self.entries.now) k l.a) 0 l.i l.initial.rows l.rows

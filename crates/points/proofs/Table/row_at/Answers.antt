-- `points::Table::row_at`: each turn writes the value of one row, and what lies past the rows stays.
use Rattle.std.proofs.Common.{ℕ, ◌+◌, List, ◌++◌, ap}
use native.Mathlib.Omega.{arith}
use lib.ListN.{drop}
use lib.Seq.{length-take-le}
use Rattle.points.proofs.Rows.{row-stored}
use Rattle.points.proofs.Table.row_at.Goals as goal

pub returns : goal.returns
returns c =
    let n = c.args.self.m + 1 in
    let rest = drop n c.args.out.now in
    ap (λ (rows : List ℕ). rows ++ rest) (row-stored _ _ _ _ c.loop-i.invariant (omega arith) (length-take-le n c.args.out.now c.requires))

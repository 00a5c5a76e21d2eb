-- `plain::plain`: the table holds Sylvester's matrix, and its determinant in the first m + n columns is the answer.
use Rattle.std.proofs.Common.{sym}
use Rattle.std.proofs.Math.Seq.{length-take-le}
use Rattle.plain.proofs.Entries.{size_most, table-determinant}
use Rattle.plain.proofs.plain.Goals as goal

pub slice_bounds-columns-end : goal.slice_bounds-columns-end
slice_bounds-columns-end c = size_most c.args.rows.a.now c.args.rows.b.now c.args.rows.a_some c.args.rows.b_some c.requires

pub slice_bounds-determinant-end : goal.slice_bounds-determinant-end
slice_bounds-determinant-end c =
    sym (length-take-le _ _ (size_most c.args.rows.a.now c.args.rows.b.now c.args.rows.a_some c.args.rows.b_some c.requires))

pub returns : goal.returns
returns c =
    table-determinant _ _ _ c.cells.result c.args.rows.a_some c.args.rows.b_some c.requires c.cells.ensures c.determinant.ensures

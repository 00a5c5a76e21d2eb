-- `points::Table::row_value`: the value up to the largest power that occurs is that of the whole row.
use native.Mathlib.Omega.{arith}
use Rattle.points.proofs.Rows.{row-value}
use Rattle.points.proofs.Table.row_value.Goals as goal

pub returns : goal.returns
returns c = row-value _ _ c.args.self.fits _ c.requires.row _ (omega arith) c.value_at.ensures

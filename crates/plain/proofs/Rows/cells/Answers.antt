-- `plain::Rows::cells`: the table holds the entries of Sylvester's matrix.
use Rattle.std.proofs.Common.{rules}
use Rattle.plain.proofs.Entries.{made_cell}
use Rattle.plain.proofs.Rows.cells.Goals as goal

pub returns : goal.returns
returns c = made_cell c.args.self.a.now c.args.self.b.now c.from_fn.ensures.items (λ s y q called. search rules)

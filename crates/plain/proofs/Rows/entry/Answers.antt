-- `plain::Rows::entry`: the rows before n are a's, the others b's.
use native.Mathlib.Omega.{arith}
use mathlib.Core.Path.{◌∙◌}
use Rattle.plain.proofs.Entries.{matrix_low, matrix_high}
use Rattle.plain.proofs.Rows.entry.Goals as goal

pub returns-then-i-n : goal.returns-then-i-n
returns-then-i-n c =
    λ p. c.shifted.ensures p ∙ matrix_low p c.args.self.a.now c.args.self.b.now (omega arith) c.args.i c.args.k (omega arith)

pub returns : goal.returns
returns c =
    λ p. c.shifted-2.ensures p ∙ matrix_high p c.args.self.a.now c.args.self.b.now (omega arith) c.args.i c.args.k (omega arith)

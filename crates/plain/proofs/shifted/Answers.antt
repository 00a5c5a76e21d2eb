-- `plain::shifted`: zeros before place i and past the row, and the row from its last entry down in between.
use Rattle.std.proofs.Common.{arith}
use Rattle.plain.proofs.Entries.{shifted-before, shifted_within, shifted_past}
use Rattle.plain.proofs.shifted.Goals as goal
use Rattle.plain.proofs.shifted.Goals.{then-k-i-via-then-k-i, then-k-i-via-else-k-i+then-a-k}

pub returns-then-k-i : goal.returns-then-k-i
returns-then-k-i c =
    λ p. elim c.then-k-i.branch [
      | then-k-i-via-then-k-i w ↦ shifted-before p c.args.a.now c.args.i c.args.k (omega arith)
      | then-k-i-via-else-k-i+then-a-k w ↦ shifted_past p c.args.a.now c.args.i c.args.k (omega arith) (omega arith) (omega arith)
    ]

pub returns : goal.returns
returns c = λ p. shifted_within p c.args.a.now c.args.i c.args.k (omega arith) (omega arith) (omega arith)

-- `plain::Matrix::determinant` and `plain::Matrix::term`, which call each other. The determinant asks for terms in the same columns, and a
-- term for a determinant in one column less: twice the number of columns falls, with one more for the determinant.
use Prim.Native.Nat.{◌+◌, ◌*◌}
use lib.ListN.{length}
use Rattle.plain.specs.Expansion.{cell, part}
use Rattle.plain.proofs.Terms.{Summed}
use Rattle.plain.proofs.Matrix.+determinant_term.Given as goal

abbrev pub decreases-determinant : goal.decreases-determinant
decreases-determinant l = 2 * length l.cols.now + 1

abbrev pub decreases-term : goal.decreases-term
decreases-term l = 2 * length l.cols.now

-- the terms before place j are added up
abbrev pub invariant-determinant-loop-j : goal.invariant-determinant-loop-j
invariant-determinant-loop-j l = Summed l.self.p (length l.cols) (part (cell l.self.p l.self.cells) l.row l.cols) l.sum l.j

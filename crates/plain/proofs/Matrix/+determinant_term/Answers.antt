-- `plain::Matrix::determinant` and `plain::Matrix::term`, which call each other. The determinant asks for terms in the same columns, and a
-- term for a determinant in one column less: twice the number of columns falls, with one more for the determinant.
use Rattle.std.proofs.Common.{arith, rules}
use Rattle.plain.proofs.Columns.{one_fewer, fewer_columns}
use Rattle.plain.proofs.Terms.{summed_first, summed-next, summed-last, det_none, val-below, term_even, term_odd}
use Rattle.plain.proofs.Matrix.+determinant_term.Goals as goal

pub determinant-returns-then-is_empty : goal.determinant-returns-then-is_empty
determinant-returns-then-is_empty t c = det_none _ (omega arith) _ _ (search rules)

pub determinant-loop-j-init : goal.determinant-loop-j-init
determinant-loop-j-init t c = summed_first _ _ _

pub determinant-add-sum-requires-clause-a_lt_p : goal.determinant-add-sum-requires-clause-a_lt_p
determinant-add-sum-requires-clause-a_lt_p t c = val-below _ (omega arith) _ c.loop-j.invariant.total

pub determinant-add-sum-requires-clause-b_lt_p : goal.determinant-add-sum-requires-clause-b_lt_p
determinant-add-sum-requires-clause-b_lt_p t c = val-below _ (omega arith) _ c.term.ensures

pub determinant-loop-j-preserved : goal.determinant-loop-j-preserved
determinant-loop-j-preserved t c =
    summed-next _ (omega arith) _ _ _ c.loop-j.invariant (omega arith) c.term.ensures c.add-sum.ensures

pub determinant-returns : goal.determinant-returns
determinant-returns t c = summed-last _ _ _ _ c.loop-j.invariant (search rules) (omega arith)

pub term-determinant-minor-requires : goal.term-determinant-minor-requires
term-determinant-minor-requires t c =
    let fewer = one_fewer c.args.cols.now c.args.j c.requires.j_below c.without.ensures in
    (omega arith, (omega arith, fewer_columns _ _ c.requires.j_below c.without.ensures c.requires.columns))

pub term-returns-then-j-eq0 : goal.term-returns-then-j-eq0
term-returns-then-j-eq0 t c =
    term_even _ (omega arith) _ _ _ _ _ c.requires.j_below c.without.ensures _ _ c.determinant-minor.ensures c.mul-product.ensures (omega arith)

pub term-returns-else-j-eq0 : goal.term-returns-else-j-eq0
term-returns-else-j-eq0 t c =
    term_odd _ (omega arith) _ _ _ _ _ c.requires.j_below c.without.ensures _ _ c.determinant-minor.ensures c.mul-product.ensures c.if-j-eq0.false c.sub.ensures

-- `rows::fallen`: the second row cut to its true row, and the power of the first one's lead.
use Rattle.std.proofs.Common.{arith}
use Rattle.euclid.specs.RowLaws.{trim-length}
use Rattle.rows.proofs.Fall.{constant-value, vanish-value, true_row, fall-value}
use Rattle.rows.proofs.Trim.{trim-front-length}
use Rattle.rows.proofs.fallen.Goals as goal

pub returns-then-m-eq0 : goal.returns-then-m-eq0
returns-then-m-eq0 c = constant-value c.args.p _ _ (omega (arith, c.if-m-eq0.true)) c.power.ensures.0 c.power.ensures.1

pub returns-then-len-eq0 : goal.returns-then-len-eq0
returns-then-len-eq0 c = vanish-value c.args.p _ _ c.true_length-len.ensures (omega (arith, c.if-m-eq0.false)) c.if-len-eq0.true

pub overflow_sub-n-2 : goal.overflow_sub-n-2
overflow_sub-n-2 c = omega (arith, c.true_length-len.ensures, trim-length c.args.w.now)

pub slice_bounds-resultant_in-end : goal.slice_bounds-resultant_in-end
slice_bounds-resultant_in-end c = omega (arith, c.true_length-len.ensures, trim-length c.args.w.now)

pub slice_bounds-resultant_in-end-2 : goal.slice_bounds-resultant_in-end-2
slice_bounds-resultant_in-end-2 c = trim-front-length _ c.true_length-len.ensures

pub resultant_in-rest-requires-clause-w_row : goal.resultant_in-rest-requires-clause-w_row
resultant_in-rest-requires-clause-w_row c =
    true_row c.args.p c.args.u.now _ c.true_length-len.ensures c.requires.w_declared c.if-len-eq0.false

pub returns : goal.returns
returns c =
    fall-value c.args.p _ _ c.true_length-len.ensures c.requires.u_row c.requires.w_declared c.if-len-eq0.false _ c.power-high.ensures.1 c.resultant_in-rest.ensures.value c.mul.ensures

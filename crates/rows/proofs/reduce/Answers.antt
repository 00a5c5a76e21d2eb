-- `rows::reduce`: each turn divides one place more, from the top of the quotient down.
use native.Mathlib.Omega.{arith}
use Rattle.rows.proofs.Bounds.{declared-minus}
use Rattle.rows.proofs.Work.{work_first, work_more, work-last}
use Rattle.rows.proofs.reduce.Goals as goal

pub loop-k-init : goal.loop-k-init
loop-k-init c =
    work_first _ _ _ _ (declared-minus c.args.b.now) (omega arith) c.requires.row_below

pub loop-k-preserved : goal.loop-k-preserved
loop-k-preserved c =
    work_more _ _ _ _ (declared-minus c.args.b.now) (omega arith) c.requires.row_below c.loop-k.invariant (omega arith) c.requires.f_inverts c.mul-q.ensures c.subtract.ensures

pub returns : goal.returns
returns c =
    work-last _ _ _ _ (declared-minus c.args.b.now) (omega arith) c.requires.row_below c.loop-k.invariant (omega arith)

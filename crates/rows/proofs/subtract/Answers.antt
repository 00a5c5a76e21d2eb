-- `rows::subtract`: the places passed are worked out.
use Rattle.std.proofs.Common.{arith}
use Rattle.rows.proofs.Places.{less_none, less-read, less-more}
use Rattle.rows.proofs.subtract.Goals as goal

pub loop-i-init : goal.loop-i-init
loop-i-init c = less_none c.args.p c.args.q c.args.part.now

pub mul_sub-requires-clause-c_lt_p : goal.mul_sub-requires-clause-c_lt_p
mul_sub-requires-clause-c_lt_p c =
    rw (c.loop-i.invariant, less-read c.args.p c.args.q c.loop-i.i c.args.part.now c.args.b.now) (c.requires.part_below c.loop-i.i)

pub loop-i-preserved : goal.loop-i-preserved
loop-i-preserved c = less-more c.args.p c.args.q _ _ c.loop-i.invariant (omega arith) (omega arith) c.mul_sub.ensures

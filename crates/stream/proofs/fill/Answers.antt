-- `stream::fill`: what a turn reads comes after what the body holds.
use Rattle.std.proofs.Common.{arith, ◌-◌, length}
use borrow.Rule.Slice.PartMut.{mid_len}
use Rattle.stream.proofs.Bytes.{filled_more}
use Rattle.stream.proofs.fill.Goals as goal

pub loop-count-preserved : goal.loop-count-preserved
loop-count-preserved g c =
    let body = c.loop-count.body in
    let rest = length c.args.body.now - c.loop-count.count in
    let read = c.in-Ok.ensures.reads in
    let part = mid_len c.loop-count.count rest body (omega arith) in
    record {
      few = omega arith;
      bytes =
          filled_more _ _ _ c.loop-count.count rest c.in-Ok.more body c.read_some.new.part (omega arith) (omega arith)
          c.loop-count.invariant.bytes c.in-Ok.ensures.bytes;
    }

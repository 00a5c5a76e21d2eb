-- `points::add_multiple`: each turn stores one sum, of an entry that no turn before has changed.
use native.Mathlib.Omega.{arith}
use Rattle.points.specs.Step.{plus_multiple}
use Rattle.points.proofs.Stores.{stored_up, stored_all}
use Rattle.points.proofs.add_multiple.Goals as goal

pub loop-k-preserved : goal.loop-k-preserved
unfolding plus_multiple
loop-k-preserved c =
    stored_up _ c.loop-k.invariant (omega arith) (omega arith) (cc (c.mul_add.ensures, c.loop-k.invariant.above c.loop-k.k (omega arith)))

pub returns : goal.returns
returns c = stored_all _ c.loop-k.invariant (omega (arith, c.loop-k.invariant.long))

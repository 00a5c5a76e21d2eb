-- `reads::filled`: each turn offers the next number.
use Rattle.std.proofs.Common.{arith}
use Rattle.job.specs.SoundLaws.{standing_test}
use Rattle.reads.proofs.Filling.{filling_first, filling_few, filling_full, filling-next, filling-last}
use Rattle.reads.proofs.filled.Goals as goal

pub loop-a-init : goal.loop-a-init
loop-a-init c = filling_first _ ((standing_test _).0 c.args.fresh.sound) c.requires

pub returns-then-j-needed : goal.returns-then-j-needed
returns-then-j-needed c =
    filling-last _ ((standing_test _).0 c.args.fresh.sound) c.requires _ _ c.loop-a.invariant (omega (arith, c.needed-needed.ensures))

pub loop-a-preserved : goal.loop-a-preserved
loop-a-preserved c =
    let s = (standing_test _).0 c.args.fresh.sound in
    filling-next _ s c.requires _ _ c.loop-a.invariant
    (omega (arith, filling_few _ s c.requires _ _ c.loop-a.invariant, c.needed-needed.ensures, c.if-j-needed.false)) _ c.offer.ensures.job

pub returns : goal.returns
returns c =
    let s = (standing_test _).0 c.args.fresh.sound in
    filling-last _ s c.requires _ _ c.loop-a.invariant (filling_full _ s c.requires _ _ c.loop-a.invariant (omega arith))

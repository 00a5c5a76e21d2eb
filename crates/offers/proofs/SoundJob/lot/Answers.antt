-- `offers::SoundJob::lot`: each turn offers one point.
use Rattle.std.proofs.Common.{◌∙◌}
use Rattle.offers.proofs.Lots.{passed_none, passed_more}
use Rattle.offers.proofs.SoundJob.lot.Goals as goal

pub loop-i-init : goal.loop-i-init
loop-i-init c = passed_none _ _ _ c.requires.room

pub loop-i-preserved : goal.loop-i-preserved
loop-i-preserved c =
    passed_more _ _ _ c.requires.room c.loop-i.invariant c.loop-i-test.true (c.answer.ensures ∙ c.offer.ensures.number) c.offer.ensures.job

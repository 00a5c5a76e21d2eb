-- `offers::SoundJob::interpolate`: the fronts of the two arrays are the kept pairs.
use Rattle.offers.proofs.Record.{standing}
use Rattle.offers.proofs.Surplus.{front_below, front_different, interpolated}
use Rattle.offers.proofs.SoundJob.interpolate.Goals as goal

pub interpolate-requires-clause-different : goal.interpolate-requires-clause-different
interpolate-requires-clause-different c = front_different _ (standing c.args.self.now.sound) c.pair.ensures.p c.requires.room c.points.ensures

pub interpolate-requires-clause-values_below : goal.interpolate-requires-clause-values_below
interpolate-requires-clause-values_below c = front_below _ (standing c.args.self.now.sound) c.pair.ensures.p c.requires.room

pub returns : goal.returns
returns c =
    interpolated _ (standing c.args.self.now.sound) c.requires.full c.pair.ensures.p c.requires.room c.points.ensures c.interpolate.ensures

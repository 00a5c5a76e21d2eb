-- `offers::SoundJob::pair`: a sound job is opened.
use Rattle.offers.proofs.Record.{opened}
use Rattle.offers.proofs.SoundJob.pair.Goals as goal

pub lend-requires : goal.lend-requires
lend-requires c = opened _ c.args.self.now.sound

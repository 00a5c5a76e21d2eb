-- `offers::SoundJob::needed`: D + 1 from the true degrees in the record.
use Rattle.std.proofs.Common.{◌∙◌}
use Rattle.offers.specs.Lent.{lent_needed}
use Rattle.offers.proofs.Record.{opened}
use Rattle.offers.proofs.SoundJob.needed.Goals as goal

pub returns : goal.returns
returns c = c.needed.ensures ∙ lent_needed c.pair.ensures (opened _ c.args.self.now.sound)

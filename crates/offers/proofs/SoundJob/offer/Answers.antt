-- `offers::SoundJob::offer`: a kept point leaves a sound job.
use Rattle.std.proofs.Common.{arith}
use Rattle.std.proofs.lemmas.Grind.{common_steps}
use Rattle.job.specs.Job.{stored}
use Rattle.offers.proofs.Record.{sound_as}
use Rattle.offers.proofs.Numbers.{offering}
use Rattle.offers.proofs.SoundJob.offer.Goals as goal

pub invariant_of-self : goal.invariant_of-self
unfolding stored
invariant_of-self c = record { sound = sound_as _ c.args.a (grind (arith, common_steps, offering)) c.args.self.now.sound }

-- `offers::SoundJob::lot`: each turn offers one point.
use Rattle.offers.proofs.Lots.{Passed}
use Rattle.offers.proofs.SoundJob.lot.Given as goal

abbrev pub invariant-loop-i : goal.invariant-loop-i
invariant-loop-i l = Passed l.initial.self.job l.points l.initial.answers l.i l.answers l.self.job

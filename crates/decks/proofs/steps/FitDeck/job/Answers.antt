-- `decks::steps::FitDeck::job`: an open job is sound.
use Rattle.job.specs.SoundLaws.{standing_test}
use Rattle.decks.proofs.steps.FitDeck.job.Goals as goal

pub invariant_of-result : goal.invariant_of-result
invariant_of-result c = record { sound = (standing_test _).1 (c.args.self.now.fit.job_stands c.requires) }

-- `decks::steps::FitDeck::opened`: the strict opening at degree 16 in y answers for the declared degrees.
use Rattle.decks.proofs.Answers.{opens}
use Rattle.decks.proofs.steps.FitDeck.opened.Goals as goal

pub returns : goal.returns
returns c = opens c.args.self.now.state c.args.self.now.fit _ c.strict.ensures.number c.strict.ensures.job

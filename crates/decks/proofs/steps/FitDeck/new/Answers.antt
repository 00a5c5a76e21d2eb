-- `decks::steps::FitDeck::new`: the state before the first record is fit.
use Rattle.std.proofs.Common.{rules}
use Rattle.decks.specs.State.{fresh_fit}
use Rattle.decks.proofs.steps.FitDeck.new.Goals as goal

pub invariant_of-result : goal.invariant_of-result
invariant_of-result c = record { fit = search (rules, fresh_fit) }

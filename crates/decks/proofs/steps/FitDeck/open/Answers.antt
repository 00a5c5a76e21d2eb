-- `decks::steps::FitDeck::open`: by what the opening answers.
use Rattle.std.proofs.Common.{arith, sym, ◌∙◌}
use Rattle.scope.specs.Point.{needed}
use Rattle.checks.specs.Outcome.{number_of_bounds}
use Rattle.decks.specs.declared.Stage.TheVariants.{Opened}
use Rattle.decks.specs.Deck.{with_job}
use Rattle.decks.specs.State.{opening_stands, with_job_fit}
use Rattle.decks.proofs.Answers.{opening_refused, opening_accepted}
use Rattle.decks.proofs.steps.FitDeck.open.Goals as goal

pub overflow_sub-bound : goal.overflow_sub-bound
unfolding needed
overflow_sub-bound g c = omega arith

pub invariant_of-self : goal.invariant_of-self
unfolding with_job
invariant_of-self g c =
    let d = c.args.self.now.state in
    record { fit = with_job_fit d c.args.self.now.fit Opened _ (λ h. absurd h) (λ _. rw c.in-Ok.ensures.1 (opening_stands d c.in-Ok.ensures.0)) }

pub returns-in-Ok : goal.returns-in-Ok
unfolding with_job needed
returns-in-Ok g c =
    opening_accepted c.args.self.now.state _ _ _ c.in-Ok.ensures.0 c.in-Ok.ensures.1 (omega arith) c.write.ensures

pub returns-in-Err : goal.returns-in-Err
returns-in-Err g c =
    opening_refused c.args.self.now.state _ _ (c.in-Err.ensures ∙ sym c.number-number.ensures)
    (omega (arith, c.number-number.ensures, (number_of_bounds c.in-Err.refusal).0)) c.write-in-Err.ensures

-- `decks::steps::FitDeck::offer`: the job with the point offered.
use Rattle.std.proofs.Common.{ℕ, ap, ◌∙◌, [], ◌∷◌}
use Rattle.job.specs.declared.Job.{Job}
use Rattle.job.specs.Calls.{offer_number, offered}
use Rattle.job.specs.StandingLaws.{offered_standing}
use Rattle.lines.specs.Text.{line, point_word}
use Rattle.decks.specs.Deck.{with_job, point_line}
use Rattle.decks.specs.State.{with_job_fit}
use Rattle.decks.proofs.steps.FitDeck.offer.Goals as goal

pub invariant_of-self : goal.invariant_of-self
unfolding with_job
invariant_of-self g c =
    let d = c.args.self.now.state in
    let fit = c.args.self.now.fit in
    record { fit = with_job_fit d fit d.stage _ (λ h. h) (λ h. rw (c.offer.ensures.job, c.job-job.ensures) (offered_standing d.job (fit.job_stands h) c.args.a)) }

pub returns-clause-state : goal.returns-clause-state
unfolding with_job
returns-clause-state g c =
    let d = c.args.self.now.state in
    ap (with_job d d.stage) (c.offer.ensures.job ∙ ap (λ (j : Job). offered j c.args.a) c.job-job.ensures)

pub returns-clause-line : goal.returns-clause-line
unfolding point_line
returns-clause-line g c =
    c.write.ensures
    ∙ ap (λ (r : ℕ). line point_word (c.args.a ∷ r ∷ []))
    (c.answer-number.ensures ∙ c.offer.ensures.number ∙ ap (λ (j : Job). offer_number j c.args.a) c.job-job.ensures)

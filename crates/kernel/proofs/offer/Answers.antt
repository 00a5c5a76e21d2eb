-- `kernel::offer`: the record is tested once, and a sound one is offered the point.
use Rattle.std.proofs.Common.{◌∙◌}
use Rattle.checks.specs.Outcome.{number_of_bounds}
use Rattle.kernel.specs.JobLaws.{offer_refused, offer_taken}
use Rattle.kernel.proofs.offer.Goals as goal

pub returns-in-Ok : goal.returns-in-Ok
returns-in-Ok c = offer_taken _ _ c.in-Ok.ensures.number c.in-Ok.ensures.ok (c.answer-number.ensures ∙ c.offer.ensures.number) c.offer.ensures.job

pub returns-in-Err : goal.returns-in-Err
returns-in-Err c = rw c.refused.ensures (offer_refused _ _ _ c.in-Err.ensures.number (number_of_bounds _).0)

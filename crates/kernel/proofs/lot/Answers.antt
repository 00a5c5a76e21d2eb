-- `kernel::lot`: the record is tested once, the bytes are counted, and a sound job is offered the points.
use Rattle.checks.specs.Outcome.{number_of_bounds}
use Rattle.kernel.specs.JobLaws.{lot_sent_back, lot_cramped, lot_taken}
use Rattle.kernel.proofs.lot.Goals as goal

pub returns-in-Ok : goal.returns-in-Ok
returns-in-Ok c = rw c.refused.ensures (lot_cramped _ _ _ c.in-Ok.ensures.number c.if-answers-points.true)

pub returns-in-Ok-2 : goal.returns-in-Ok-2
returns-in-Ok-2 c = lot_taken _ _ _ c.in-Ok-2.ensures.number c.in-Ok-2.ensures.ok c.if-answers-points.false c.lot.ensures.job c.lot.ensures.bytes

pub returns-in-Err : goal.returns-in-Err
returns-in-Err c = rw c.refused-in-Err.ensures (lot_sent_back _ _ _ _ c.in-Err.ensures.number (number_of_bounds _).0)

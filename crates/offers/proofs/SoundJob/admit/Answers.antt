-- `offers::SoundJob::admit`: the tests in the scope's order; the points that are searched are those kept.
use Rattle.std.proofs.Common.{arith, ap, eqb}
use Rattle.std.specs.List.{list_any}
use Rattle.std.proofs.lemmas.Grind.{common_steps}
use Rattle.offers.proofs.Points.{admitting}
use Rattle.offers.proofs.SoundJob.admit.Goals as goal

pub returns-then-contains : goal.returns-then-contains
returns-then-contains c = grind (arith, common_steps, admitting, ap (list_any (λ y. eqb y c.args.a)) c.points.ensures)

pub returns-then-not-usable : goal.returns-then-not-usable
returns-then-not-usable c = grind (arith, common_steps, admitting, ap (list_any (λ y. eqb y c.args.a)) c.points.ensures)

pub returns : goal.returns
returns c = grind (arith, common_steps, admitting, ap (list_any (λ y. eqb y c.args.a)) c.points.ensures)

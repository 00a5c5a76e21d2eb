-- `kernel::open`: it is the strict opening, worked out in the answer's record.
use Rattle.std.proofs.Common.{◌∙◌}
use Rattle.checks.specs.Outcome.{number_of_bounds}
use Rattle.kernel.specs.JobLaws.{open_strict, open_refused}
use Rattle.kernel.proofs.open.Goals as goal

pub returns-in-Err : goal.returns-in-Err
returns-in-Err c =
    rw c.number.ensures (open_refused _ _ _ _ _ _ _ _ _ c.in-Err.ensures.number (number_of_bounds _).0 (c.in-Err.ensures.refused ∙ c.default.ensures))

pub returns-in_default : goal.returns-in_default
returns-in_default c = open_strict _ _ _ _ _ _ _ _ c.in_default.ensures.number c.in_default.ensures.opened

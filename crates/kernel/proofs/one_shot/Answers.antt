-- `kernel::one_shot`: it is the one-shot of the crate reads.
use Rattle.kernel.specs.JobLaws.{shot_done}
use Rattle.kernel.proofs.one_shot.Goals as goal

pub returns : goal.returns
returns c = rw c.answer.ensures (shot_done _ _ _ _ _ _ _ _ _ _ c.one_shot.ensures)

-- `kernel::read`: the record is tested once, and a sound one is read.
use Rattle.std.proofs.Common.{sym, ◌∙◌}
use Rattle.kernel.specs.JobLaws.{read_unsound, read_done}
use Rattle.kernel.proofs.read.Goals as goal

pub returns-then-not-is_sound : goal.returns-then-not-is_sound
returns-then-not-is_sound c = rw c.answer.ensures (read_unsound _ _ (sym c.is_sound.ensures ∙ c.if-not-is_sound.true))

pub returns : goal.returns
returns c = rw c.answer-2.ensures (read_done _ _ _ _ (sym c.is_sound.ensures ∙ c.if-not-is_sound.false) c.read.ensures)

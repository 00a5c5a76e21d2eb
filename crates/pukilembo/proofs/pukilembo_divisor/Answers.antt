-- `pukilembo::pukilembo_divisor` meets its contract: the true lengths of the two rows decide.
use Rattle.kernel.specs.RowLaws.{divisor_first, divisor_second}
use Rattle.pukilembo.proofs.pukilembo_divisor.Goals as goal

pub returns-then-first-second : goal.returns-then-first-second
returns-then-first-second c = divisor_first _ _ _ _ c.true_length-first.ensures c.true_length-second.ensures c.if-first-second.true

pub returns : goal.returns
returns c = divisor_second _ _ _ _ c.true_length-first.ensures c.true_length-second.ensures c.if-first-second.false

-- `pukilembo::true_length` meets its contract.
use Rattle.kernel.specs.RowLaws.{divisor_alone}
use Rattle.pukilembo.proofs.true_length.Goals as goal

pub returns : goal.returns
returns c = divisor_alone _ _ c.divisor.ensures

-- `checks::unended`: the last entry is the one of the declared degree.
use Rattle.std.proofs.Common.{rules, tests}
use Rattle.checks.proofs.Tests.{last-unended}
use Rattle.checks.proofs.unended.Goals as goal

pub returns : goal.returns
returns c = last-unended _ _ c.last.ensures.value _ (search (rules, tests))

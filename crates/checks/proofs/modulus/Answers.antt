-- `checks::modulus`: a modulus is made of exactly the primes from 2 on.
use Rattle.std.proofs.Common.{ap, sym, ◌∙◌}
use Rattle.checks.specs.Outcome.{outcome}
use Rattle.checks.proofs.Tests.{modulus_tested}
use Rattle.checks.proofs.modulus.Goals as goal

pub returns-clause-number : goal.returns-clause-number
returns-clause-number c = ap outcome c.ok_or.ensures.value ∙ modulus_tested _ _ (sym c.outside.ensures ∙ c.if-outside.false) c.new.ensures.prime

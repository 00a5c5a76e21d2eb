-- `points::degree`: one less than the coefficients that are left when the zeros at the end are cut off.
use Rattle.std.proofs.Common.{rules}
use Rattle.points.proofs.Searches.{trimmed_bound, trimmed_degree}
use Rattle.points.proofs.degree.Goals as goal

pub returns-clause-bound : goal.returns-clause-bound
returns-clause-bound c = trimmed_bound c.args.coefficients.now _ (λ i e. search rules)

pub returns-clause-value : goal.returns-clause-value
returns-clause-value c = trimmed_degree c.args.coefficients.now _ (λ e. search rules) (λ i e. search rules)

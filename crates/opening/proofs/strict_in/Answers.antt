-- `opening::strict_in`: each answer rests on the tests before it, and on both tables laid out with their true degrees.
use Rattle.std.proofs.Common.{arith, sym, ap, ◌∙◌}
use Rattle.std.proofs.lemmas.Result.{err_from_is_err_and}
use Rattle.checks.specs.Outcome.{number_of_bounds}
use Rattle.checks.specs.declared.Given.{Given}
use Rattle.job.specs.Job.{spread}
use Rattle.opening.proofs.Judging.{Found, refused-shape, table_of_a, table_of_b, refused-scarce, accepted-number, accepted_job}
use Rattle.opening.proofs.strict_in.Goals as goal
use Rattle.opening.proofs.strict_in.Goals.{After-true_degree-db}

-- both tables are laid out, and have their true degrees
found : (c : After-true_degree-db)
    → Found c.args.p c.args.a.m c.args.a.e c.args.b.m c.args.b.e c.args.a.entries.now c.args.b.entries.now c.spread-laid_a.result c.spread-laid_b.result c.true_degree-da.result c.true_degree-db.result
found c =
    record {
      none = sym c.in_ok-sheets.ensures.number;
      laid_a = c.spread-laid_a.ensures ∙ ap (λ (g : Given). spread g.e g.entries.now) c.in_ok-sheets.ensures.ok.1;
      laid_b = c.spread-laid_b.ensures ∙ ap (λ (g : Given). spread g.e g.entries.now) c.in_ok-sheets.ensures.ok.2;
      real_a = c.true_degree-da.ensures;
      real_b = c.true_degree-db.ensures;
    }

pub returns-in_err-sheets-clause-number : goal.returns-in_err-sheets-clause-number
returns-in_err-sheets-clause-number c =
    let p = err_from_is_err_and c.from_residual.result c.from_residual.ensures.1 in
    rw (p.1, p.2) (refused-shape _ _ _ _ _ _ _ c.in_err-sheets.ensures.number (number_of_bounds _).0)

pub invariant_of-pair : goal.invariant_of-pair
invariant_of-pair c = record { fits = table_of_a (found (goal.at.invariant_of-pair c).After-true_degree-db) }

pub invariant_of-pair-2 : goal.invariant_of-pair-2
invariant_of-pair-2 c = record { fits = table_of_b (found (goal.at.invariant_of-pair-2 c).After-true_degree-db) }

pub returns-then-not-has_usable-clause-number : goal.returns-then-not-has_usable-clause-number
returns-then-not-has_usable-clause-number c =
    refused-scarce (found (goal.at.returns-then-not-has_usable-clause-number c).After-true_degree-db) _ c.in_ok-sheets.ensures.ok.0 (omega arith) c.has_usable.ensures c.if-not-has_usable.true

pub returns-clause-number : goal.returns-clause-number
returns-clause-number c = accepted-number (found (goal.at.returns-clause-number c).After-true_degree-db) _ c.in_ok-sheets.ensures.ok.0 (omega arith) c.has_usable.ensures c.if-not-has_usable.false

pub returns-clause-opened : goal.returns-clause-opened
returns-clause-opened c = accepted_job (found (goal.at.returns-clause-opened c).After-true_degree-db) _ c.in_ok-sheets.ensures.ok.0 (omega arith) c.has_usable.ensures c.if-not-has_usable.false

-- `points::power_occurs`: some row has the power.
use Rattle.std.proofs.Common.{rules, tests, arith, refl, sym, ◌∙◌, ◌+◌, not, eqb}
use Rattle.std.proofs.lemmas.Iterator.{YieldsList-from_range}
use Rattle.std.proofs.lemmas.Iterator.Search.{any_from_yields_List}
use Rattle.scope.specs.Pair.{term, occurs}
use Rattle.points.proofs.Rows.{term_at}
use Rattle.points.proofs.Ranges.{some_listed}
use Rattle.points.proofs.power_occurs.Goals as goal

pub returns : goal.returns
unfolding occurs
returns c =
    any_from_yields_List (λ i. not (eqb (term 16 c.args.t.now i c.args.j) 0)) _ _ c.any.result c.any.ensures.ran
    (YieldsList-from_range 0 _ (c.args.m + 1) refl (omega arith)) (λ x b q k. search (rules, tests, term_at c.args.t.now x c.args.j (omega arith)))
    ∙ sym (some_listed (c.args.m + 1) (λ i. not (eqb (term 16 c.args.t.now i c.args.j) 0)))

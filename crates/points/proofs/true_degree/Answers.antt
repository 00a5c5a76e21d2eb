-- `points::true_degree`: the powers from the top down, up to the first that occurs.
use Rattle.std.proofs.Common.{rules, tests, arith, ◌∙◌}
use Rattle.std.proofs.lemmas.Iterator.Search.{find_from_yields_List}
use Rattle.scope.specs.Pair.{term, occurs}
use Rattle.points.proofs.Ranges.{YieldsList-from_range_back, largest_found}
use Rattle.points.proofs.true_degree.Goals as goal

pub returns : goal.returns
returns c =
    c.unwrap_or.ensures
    ∙ largest_found 16 (occurs c.args.m (term 16 c.args.t.now)) c.find.result
    (find_from_yields_List (occurs c.args.m (term 16 c.args.t.now)) _ _ c.find.result c.find.ensures.ran
    (YieldsList-from_range_back 1 17 16 c.rev.ensures.source (omega arith)) (λ x b q k. search (rules, tests)))

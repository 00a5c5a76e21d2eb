-- `points::Pair::has_usable`: usable points are counted until so many are found.
use Rattle.std.proofs.Common.{rules, tests, arith}
use Rattle.std.proofs.lemmas.Iterator.{YieldsList-from_range, YieldsList-from_take}
use Rattle.std.proofs.lemmas.Iterator.Consumers.{YieldsList-from_filter, YieldsList-at, count_from_yields_List}
use Rattle.scope.specs.Point.{usable}
use Rattle.points.specs.Lent.{pair_at}
use Rattle.points.proofs.Ranges.{enough_found}
use Rattle.points.proofs.Pair.has_usable.Goals as goal

pub returns : goal.returns
returns c =
    enough_found (pair_at c.args.self) c.args.self.p.value c.args.wanted
    (count_from_yields_List c.take.result c.count-found.result c.count-found.ensures.ran
    (YieldsList-from_take c.args.wanted
    (YieldsList-at c.take.ensures.source
    (YieldsList-from_filter _ (usable (pair_at c.args.self)) (YieldsList-from_range 0 c.args.self.p.value c.args.self.p.value c.filter.ensures.source (omega arith)) c.filter.ensures.closure (λ x b q k. search (rules, tests))))
    c.take.ensures.count))

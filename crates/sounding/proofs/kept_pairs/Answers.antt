-- `sounding::kept_pairs`: every pair would have been kept, or one would not.
use Rattle.std.proofs.Common.{rules, tests, arith, refl, length}
use Rattle.std.proofs.lemmas.Iterator.{YieldsList-from_range, cases_from_all}
use Rattle.points.specs.Lent.{pair_at}
use Rattle.sounding.proofs.Pairs.{Kept, Lost, pairs_tested}
use Rattle.sounding.proofs.kept_pairs.Goals as goal

pub returns : goal.returns
returns c =
    pairs_tested _ _ _ c.requires _
    (cases_from_all _ _ _ (Kept (pair_at c.args.pair) c.args.points.now c.args.values.now) (Lost (pair_at c.args.pair) c.args.points.now c.args.values.now)
    c.all.ensures.ran (YieldsList-from_range 0 _ (length c.args.points.now) refl (omega arith)) (λ x q k. search (rules, tests)) (λ x q k. search (rules, tests)))

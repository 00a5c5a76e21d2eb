-- `sounding::zeros_from`: the entries after the first k, each tested.
use Rattle.std.proofs.Common.{rules, tests, eqb, sym, ◌∙◌}
use Rattle.std.proofs.lemmas.Iterator.{YieldsList-from_slice}
use Rattle.std.proofs.lemmas.Iterator.Adapters.{YieldsList-from_skip}
use Rattle.std.proofs.lemmas.Iterator.Search.{all_from_yields_List}
use Rattle.sounding.proofs.Zeros.{zeros_all}
use Rattle.sounding.proofs.zeros_from.Goals as goal

pub returns : goal.returns
returns c =
    all_from_yields_List (λ x. eqb x 0) _ _ _ c.all.ensures.ran
    (YieldsList-from_skip c.args.k (YieldsList-from_slice c.args.t.now cc) cc) (λ x b q k. search (rules, tests))
    ∙ sym (zeros_all _)

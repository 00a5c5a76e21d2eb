-- `checks::over`: whether an entry is p or more.
use Rattle.std.proofs.Common.{rules, tests, leb, sym, ◌∙◌}
use Rattle.std.proofs.lemmas.Iterator.{YieldsList-from_slice}
use Rattle.std.proofs.lemmas.Iterator.Search.{any_from_yields_List}
use Rattle.checks.proofs.Tests.{over-any}
use Rattle.checks.proofs.over.Goals as goal

pub returns : goal.returns
returns c =
    any_from_yields_List (λ x. leb c.args.p x) _ _ _ c.any.ensures.ran (YieldsList-from_slice c.args.t.now cc) (λ x b q k. search (rules, tests))
    ∙ sym (over-any _ _)

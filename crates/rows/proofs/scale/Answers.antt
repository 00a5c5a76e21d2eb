-- `rows::scale`: the entries passed are multiplied.
use Rattle.std.proofs.Common.{ℕ, ◌*◌, ◌%◌, arith, set, ap, ◌∙◌}
use Rattle.std.proofs.lemmas.List.{get_or_default}
use Rattle.std.proofs.lemmas.List.Edits.{map_over_more}
use Rattle.rows.proofs.scale.Goals as goal

pub loop-x-preserved : goal.loop-x-preserved
loop-x-preserved c =
    ap (set c.loop-x.r c.loop-x.x-index) c.mul.ensures
    ∙ map_over_more (λ (x : ℕ). x * c.args.f % c.args.p.value) _ _ _ _ (omega arith) c.loop-x.invariant (get_or_default c.loop-x.r c.loop-x.x-index 0 _ (omega arith))

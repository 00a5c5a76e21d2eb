-- `rows::make_monic`: a row that ends in 1 stays.
use Rattle.std.proofs.Common.{◌∙◌}
use Rattle.rows.proofs.Bounds.{last_some}
use Rattle.rows.proofs.Monic.{monic_code, monic-same}
use Rattle.rows.proofs.make_monic.Goals as goal

pub inverse-f-requires-clause-a_nonzero : goal.inverse-f-requires-clause-a_nonzero
inverse-f-requires-clause-a_nonzero c = last_some c.args.r.now c.requires.ended

pub returns-then-last-ne1 : goal.returns-then-last-ne1
returns-then-last-ne1 c =
    c.scale.ensures ∙ monic_code c.args.p.value c.args.r.now c.requires.ended c.inverse-f.ensures

pub returns-else-last-ne1 : goal.returns-else-last-ne1
returns-else-last-ne1 c =
    monic-same c.args.p.value c.args.r.now c.requires.ended c.requires.below c.if-last-ne1.false

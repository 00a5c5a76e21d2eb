-- `rows::determinant_in`: by which of the two leading entries are 0.
use Rattle.std.proofs.Common.{ap, rules, ◌∙◌}
use Rattle.residue.specs.Residue.{val}
use Rattle.rows.proofs.Fall.{ended_row, plain_value_lem, swap-value, both_fall}
use Rattle.rows.proofs.Value.{value_below}
use Rattle.rows.proofs.determinant_in.Goals as goal

pub resultant_in-requires-clause-u_row : goal.resultant_in-requires-clause-u_row
resultant_in-requires-clause-u_row c = ended_row c.requires.u_declared (search rules)

pub resultant_in-requires-clause-w_row : goal.resultant_in-requires-clause-w_row
resultant_in-requires-clause-w_row c = ended_row c.requires.w_declared (search rules)

pub fallen-requires-clause-u_row : goal.fallen-requires-clause-u_row
fallen-requires-clause-u_row c = ended_row c.requires.u_declared (search rules)

pub fallen-requires-in-false-true-clause-u_row : goal.fallen-requires-in-false-true-clause-u_row
fallen-requires-in-false-true-clause-u_row c = ended_row c.requires.w_declared (search rules)

pub signed-requires : goal.signed-requires
signed-requires c = value_below c.args.p _ c.fallen-in-false-true.ensures

pub returns-in-true-true : goal.returns-in-true-true
returns-in-true-true c =
    c.resultant_in.ensures.value
    ∙ ap (val c.args.p.value) (plain_value_lem c.args.p c.args.u.now c.args.w.now (ended_row c.requires.u_declared (search rules)) (ended_row c.requires.w_declared (search rules)))

pub returns-in-false-true : goal.returns-in-false-true
returns-in-false-true c =
    swap-value c.args.p c.args.u.now c.args.w.now c.fallen-in-false-true.ensures c.signed.ensures.below c.signed.ensures.is

pub returns-in-false-false : goal.returns-in-false-false
returns-in-false-false c = c.from.ensures ∙ both_fall c.args.p c.args.u.now c.args.w.now c.in-false-false.is-0 c.in-false-false.is-1

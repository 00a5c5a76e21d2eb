-- `rows::resultant_in`: the sequence in the order of the lengths.
use Rattle.rows.proofs.Order.{shorter_rows, shorter_answer, longer_rows, longer_answer}
use Rattle.rows.proofs.Value.{value_below}
use Rattle.rows.proofs.resultant_in.Goals as goal

pub euclid-found-requires-clause-neighbours : goal.euclid-found-requires-clause-neighbours
euclid-found-requires-clause-neighbours c =
    shorter_rows _ _ _ c.requires.u_row c.requires.w_row c.if-u-w.true

pub signed-requires : goal.signed-requires
signed-requires c = value_below c.args.p _ c.euclid-found.ensures.value

pub returns-then-u-w : goal.returns-then-u-w
returns-then-u-w c =
    let found = c.euclid-found.ensures in
    assumption (shorter_answer _ _ _ c.requires.u_row c.requires.w_row c.if-u-w.true (record { value = found.value; steps = found.steps; lies = found.lies }) c.signed.ensures.below c.signed.ensures.is c.swapped.ensures)

pub euclid-requires-clause-neighbours : goal.euclid-requires-clause-neighbours
euclid-requires-clause-neighbours c =
    longer_rows _ _ _ c.requires.u_row c.requires.w_row c.if-u-w.false

pub returns : goal.returns
returns c =
    let found = c.euclid.ensures in
    assumption (longer_answer _ _ _ c.requires.u_row c.requires.w_row c.if-u-w.false (record { value = found.value; steps = found.steps; lies = found.lies }))

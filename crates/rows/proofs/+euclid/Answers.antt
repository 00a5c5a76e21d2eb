-- `rows::euclid`: a constant ends the sequence, so does an empty rest; else the rest of it is worked out in the two rows.
use Rattle.std.proofs.Common.{◌+◌, ◌-◌, ◌≤◌, ap, arith, drop, length, sym, ◌∙◌}
use Rattle.std.proofs.Math.Seq.{length-take-le}
use Rattle.residue.specs.Residue.{val}
use Rattle.residue.specs.ResidueLaws.{val-𝟘}
use Rattle.euclid.specs.FollowingLaws.{next}
use Rattle.rows.proofs.Bounds.{declared-minus, count_constant}
use Rattle.rows.proofs.Chain.{order-length, next-length, next_fits}
use Rattle.rows.proofs.Rest.{goes_on, rest-answer, rest-steps}
use Rattle.rows.proofs.Turns.{answer-last, by_last-zero, by_last-some, empty, monic_constant, next_constant}
use Rattle.rows.proofs.Value.{val_is, value_below}
use Rattle.rows.proofs.+euclid.Goals as goal

pub returns-then-n-eq0 : goal.returns-then-n-eq0
returns-then-n-eq0 t c =
    let p = c.args.p.value in
    let a = c.args.before.now in
    let b = c.args.r.now in
    let rows = c.requires.neighbours in
    let constant = c.if-n-eq0.true in
    assumption (answer-last p a b rows (next_constant p a b constant) a 1 (val_is p c.power.ensures.0 c.power.ensures.1 ∙ ap (val p) (sym (by_last-zero p _ constant))) (count_constant (length a) (omega (arith, declared-minus b))) (monic_constant c.args.p a b rows constant) (omega arith))

pub slice_bounds-true_length-end : goal.slice_bounds-true_length-end
slice_bounds-true_length-end t c = omega (arith, order-length c.args.before.now c.args.r.now c.requires.neighbours)

pub slice_bounds-true_length-end-2 : goal.slice_bounds-true_length-end-2
slice_bounds-true_length-end-2 t c =
    sym (length-take-le _ _ (omega (arith, order-length c.args.before.now c.args.r.now c.requires.neighbours)))

pub returns-then-k-eq0 : goal.returns-then-k-eq0
returns-then-k-eq0 t c =
    let p = c.args.p.value in
    let a = c.args.before.now in
    let b = c.args.r.now in
    let rows = c.requires.neighbours in
    let division = c.divided-steps.ensures in
    let none : length (next p a b) ≤ 0 = omega (arith, next-length p a b rows division.divided c.true_length-k.ensures) in
    assumption (answer-last p a b rows (empty _ none) c.divided-steps.new.before (length b - 1 + 1) (sym (ap (val p) (by_last-some p _ _ c.if-n-eq0.false) ∙ val-𝟘 p)) division.steps division.made_monic (omega arith))

pub slice_bounds-euclid-end : goal.slice_bounds-euclid-end
slice_bounds-euclid-end t c = next_fits _ _ _ c.requires.neighbours c.divided-steps.ensures.divided c.true_length-k.ensures

pub slice_bounds-euclid-end-2 : goal.slice_bounds-euclid-end-2
slice_bounds-euclid-end-2 t c =
    sym (length-take-le _ _ (next_fits _ _ _ c.requires.neighbours c.divided-steps.ensures.divided c.true_length-k.ensures))

pub euclid-rest-requires : goal.euclid-rest-requires
euclid-rest-requires t c =
    let division = c.divided-steps.ensures in
    let on = goes_on c.args.p _ _ c.requires.neighbours division.made_monic division.divided c.true_length-k.ensures c.if-k-eq0.false in
    (omega (arith, on.1, c.decreases), (on.0, omega (arith, order-length c.args.before.now c.args.r.now c.requires.neighbours)))

pub turn-requires-clause-x_below : goal.turn-requires-clause-x_below
turn-requires-clause-x_below t c = value_below c.args.p _ c.euclid-rest.ensures.value

pub turn-requires-clause-n_most : goal.turn-requires-clause-n_most
turn-requires-clause-n_most t c =
    omega (arith, order-length c.args.before.now c.args.r.now c.requires.neighbours)

pub overflow_add-result-2 : goal.overflow_add-result-2
overflow_add-result-2 t c =
    let division = c.divided-steps.ensures in
    let rest = c.euclid-rest.ensures in
    omega (arith, rest-steps c.args.p c.args.before.now c.args.r.now c.requires.neighbours division.made_monic division.divided c.true_length-k.ensures c.if-k-eq0.false c.requires.before_short (record { value = rest.value; steps = rest.steps; lies = rest.lies }) division.steps)

pub returns : goal.returns
returns t c =
    let division = c.divided-steps.ensures in
    let rest = c.euclid-rest.ensures in
    assumption (rest-answer c.args.p c.args.before.now c.args.r.now c.requires.neighbours division.made_monic division.divided c.true_length-k.ensures c.if-k-eq0.false (drop c.true_length-k.result c.divided-steps.new.before) (record { value = rest.value; steps = rest.steps; lies = rest.lies }) c.turn.ensures division.steps c.swapped.ensures)

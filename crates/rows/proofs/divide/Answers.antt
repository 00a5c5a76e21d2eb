-- `rows::divide`: a row no longer than the divisor's degree stays, and any other is divided.
use Rattle.std.proofs.Common.{ℕ, ap, arith, get_or, length, ◌∙◌}
use Rattle.residue.specs.Inverse.{inverse}
use Rattle.rows.proofs.Bounds.{declared-minus, last_some, count_code, count_none}
use Rattle.rows.proofs.Work.{work_none}
use Rattle.rows.proofs.divide.Goals as goal

pub returns-then-l-d-clause-divided : goal.returns-then-l-d-clause-divided
returns-then-l-d-clause-divided c = work_none _ _ _ (omega (arith, declared-minus c.args.b.now))

pub returns-then-l-d-clause-steps : goal.returns-then-l-d-clause-steps
returns-then-l-d-clause-steps c = count_none _ _ (omega (arith, declared-minus c.args.b.now))

pub inverse-f-requires-clause-a_nonzero : goal.inverse-f-requires-clause-a_nonzero
inverse-f-requires-clause-a_nonzero c = last_some c.args.b.now c.requires.b_ended

pub reduce-requires-clause-f_inverts : goal.reduce-requires-clause-f_inverts
reduce-requires-clause-f_inverts c =
    c.inverse-f.ensures
    ∙ ap (λ (n : ℕ). inverse c.args.p.value (get_or c.args.b.now n 0)) (declared-minus c.args.b.now)

pub returns-clause-steps : goal.returns-clause-steps
returns-clause-steps c = count_code (length c.args.row.now) c.args.b.now

-- `points::weight`: what the calls return, put together.
use native.Mathlib.Omega.{arith}
use Rattle.points.specs.Step.{weight_of, value_of}
use Rattle.rows.proofs.Value.{value_below}
use Rattle.points.proofs.Horner.{front-value}
use Rattle.points.proofs.weight.Goals as goal

pub sub-missing-requires-clause-b_lt_p : goal.sub-missing-requires-clause-b_lt_p
unfolding value_of
sub-missing-requires-clause-b_lt_p c = value_below c.args.p _ c.value_at-u.ensures

pub inverse-requires-clause-a_nonzero : goal.inverse-requires-clause-a_nonzero
inverse-requires-clause-a_nonzero c = omega (arith, front-value _ _ _ _ c.requires.as_long c.value_at-z.ensures)

pub inverse-requires-clause-a_below : goal.inverse-requires-clause-a_below
unfolding value_of
inverse-requires-clause-a_below c = value_below c.args.p _ c.value_at-z.ensures

pub returns : goal.returns
unfolding weight_of
returns c = cc (c.value_at-u.ensures, front-value _ _ _ _ c.requires.as_long c.value_at-z.ensures)

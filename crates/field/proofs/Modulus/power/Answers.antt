-- `field::Modulus::power`: each turn takes the last binary digit of the exponent that is left.
use native.Mathlib.Omega.{arith}
use mathlib.Core.Path.{◌∙◌}
use Rattle.field.proofs.Powers.{raised_first, raised_even, raised_odd, raised-last}
use Rattle.field.proofs.Modulus.power.Goals as goal
use Rattle.field.proofs.Modulus.power.Goals.{then-left-eq1, else-left-eq1}

pub loop-left-init : goal.loop-left-init
loop-left-init c = raised_first c.args.self.value (omega arith) c.args.a c.args.n

pub loop-left-preserved : goal.loop-left-preserved
loop-left-preserved c =
    elim c.if-left-eq1.branch [
      | then-left-eq1 w ↦ raised_odd c.args.self.value c.loop-left.invariant c.mul-base.ensures (w.r-is ∙ w.mul-r.ensures) w.if-left-eq1.true
      | else-left-eq1 w ↦ rw w.r-is (raised_even c.args.self.value c.loop-left.invariant c.mul-base.ensures (omega arith))
    ]

pub returns : goal.returns
returns c = (c.loop-left.invariant.below, raised-last c.args.self.value c.loop-left.invariant (omega arith))

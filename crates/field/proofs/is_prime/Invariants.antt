-- `field::is_prime`: a divisor found is a proof against; with every d tried up to the square root, there is none.
use Prim.Native.Nat.{◌-◌, ◌^◌, ◌<◌}
use Rattle.field.proofs.Trials.{Tried}
use Rattle.field.proofs.is_prime.Given as goal

abbrev pub invariant-loop-d : goal.invariant-loop-d
invariant-loop-d l = Tried l.p l.d × (l.d < 2 ^ 32)

abbrev pub decreases-loop-d : goal.decreases-loop-d
decreases-loop-d l = l.p - l.d

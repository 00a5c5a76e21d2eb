-- `field::Modulus::inverse`: each turn goes on to the next pair of remainders; a prime p leaves no remainder 0 before 1.
use Rattle.field.proofs.Euclid.{Chain}
use Rattle.field.proofs.Modulus.inverse.Given as goal

abbrev pub invariant-loop-r1 : goal.invariant-loop-r1
invariant-loop-r1 l = Chain l.self.value l.a l.minus l.r0 l.r1 l.t0 l.t1

abbrev pub decreases-loop-r1 : goal.decreases-loop-r1
decreases-loop-r1 l = l.r1

-- `field::Modulus::power`: each turn takes the last binary digit of the exponent that is left.
use Rattle.ring.specs.Ring.{pow}
use Rattle.residue.specs.Residue.{residues, res}
use Rattle.field.proofs.Powers.{Raised}
use Rattle.field.proofs.Modulus.power.Given as goal

abbrev pub invariant-loop-left : goal.invariant-loop-left
invariant-loop-left l = Raised l.self.value (pow (residues l.self.value) (res l.self.value l.a) l.n) l.r l.base l.left

abbrev pub decreases-loop-left : goal.decreases-loop-left
decreases-loop-left l = l.left

-- `field::Modulus::inverse`: each turn goes on to the next pair of remainders; a prime p leaves no remainder 0 before 1.
use Prim.Native.Nat.{◌+◌, ◌*◌, ◌-◌, ◌/◌}
use native.Mathlib.Nat.{div-mul-le_self}
use native.Mathlib.Omega.{arith}
use mathlib.Core.Bool.{not}
use Rattle.field.proofs.Euclid.{Chain, chain_first, chain_bounds, chain_next, chain-plus, chain-minus}
use Rattle.field.proofs.Modulus.inverse.Goals as goal

-- the pair after one turn
next : (c : goal.In-loop-r1) → Chain c.args.self.value c.args.a (not c.loop-r1.minus) c.loop-r1.r1 (c.loop-r1.r0 - c.loop-r1.r0 / c.loop-r1.r1 * c.loop-r1.r1) c.loop-r1.t1 (c.loop-r1.r0 / c.loop-r1.r1 * c.loop-r1.t1 + c.loop-r1.t0)
next c = chain_next _ _ c.loop-r1.invariant c.args.self.prime (omega arith)

pub loop-r1-init : goal.loop-r1-init
loop-r1-init c = chain_first c.args.self.value c.args.a (omega arith) (omega arith)

pub overflow_sub-r2 : goal.overflow_sub-r2
overflow_sub-r2 c = div-mul-le_self c.loop-r1.r0 c.loop-r1.r1

pub overflow_mul-r2 : goal.overflow_mul-r2
overflow_mul-r2 c = omega (arith, overflow_sub-r2 c, (chain_bounds _ _ c.loop-r1.invariant).0)

pub overflow_mul-t2 : goal.overflow_mul-t2
overflow_mul-t2 c = omega (arith, (chain_bounds _ _ (next c)).1)

pub overflow_add-t2 : goal.overflow_add-t2
overflow_add-t2 c = omega (arith, (chain_bounds _ _ (next c)).1)

pub loop-r1-smaller : goal.loop-r1-smaller
loop-r1-smaller c = (next c).falls

pub loop-r1-preserved : goal.loop-r1-preserved
loop-r1-preserved c = next c

pub overflow_sub-result : goal.overflow_sub-result
overflow_sub-result c = (chain_bounds _ _ c.loop-r1.invariant).1

pub returns-then-minus : goal.returns-then-minus
returns-then-minus c = chain-minus _ _ (rw c.if-minus.true at c.loop-r1.invariant) (omega arith)

pub returns-else-minus : goal.returns-else-minus
returns-else-minus c = chain-plus _ _ (rw c.if-minus.false at c.loop-r1.invariant) (omega arith)

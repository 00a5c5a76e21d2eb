-- `field::mul_sub`: (p - b) * q + c fits 64 bits, and is c - q * b modulo p.
use Prim.Native.Nat.{◌+◌, ◌*◌, ◌-◌}
use native.Mathlib.Nat.{mod-lt}
use native.Mathlib.Omega.{arith}
use Rattle.field.proofs.Numbers.{product_most, minus-product}
use Rattle.field.proofs.mul_sub.Goals as goal

pub overflow_mul-result : goal.overflow_mul-result
overflow_mul-result c = omega (arith, product_most {a = c.args.p - c.args.b} {b = c.args.q} (omega arith) (omega arith))

pub overflow_add-result : goal.overflow_add-result
overflow_add-result c = omega (arith, product_most {a = c.args.p - c.args.b} {b = c.args.q} (omega arith) (omega arith))

pub overflow_cast-result-4 : goal.overflow_cast-result-4
overflow_cast-result-4 c = omega (arith, mod-lt ((c.args.p - c.args.b) * c.args.q + c.args.c) {m = c.args.p} (omega arith))

pub returns : goal.returns
returns c = minus-product c.args.p c.args.c c.args.q c.args.b (omega arith)

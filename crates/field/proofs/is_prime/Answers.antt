-- `field::is_prime`: a divisor found is a proof against; with every d tried up to the square root, there is none.
use native.Mathlib.Omega.{arith}
use mathlib.Core.Path.{refl}
use Rattle.field.proofs.Numbers.{product_most}
use Rattle.field.proofs.Trials.{tried_first, tried-next, tried_all, tried-room, divided}
use Rattle.field.proofs.is_prime.Goals as goal
use Rattle.field.proofs.is_prime.Goals.{else-p-ge4-via-then-p-ge4+else-p-eq0, else-p-ge4-via-else-p-ge4}

pub returns-then-p-eq0 : goal.returns-then-p-eq0
returns-then-p-eq0 c = divided 2 (omega arith) (omega arith) c.if-p-eq0.true

pub loop-d-init : goal.loop-d-init
loop-d-init c = (elim c.else-p-ge4.branch [ else-p-ge4-via-then-p-ge4+else-p-eq0 w ↦ tried_first (λ _. w.if-p-eq0.false) | else-p-ge4-via-else-p-ge4 w ↦ tried_first (λ four. absurd (omega arith)) ], omega arith)

pub overflow_mul-d : goal.overflow_mul-d
overflow_mul-d c = omega (arith, product_most {a = c.loop-d.d} {b = c.loop-d.d} (omega arith) (omega arith))

pub returns-then-p-d-eq0 : goal.returns-then-p-d-eq0
returns-then-p-d-eq0 c = divided c.loop-d.d (omega arith) (omega arith) c.if-p-d-eq0.true

pub overflow_add-d : goal.overflow_add-d
overflow_add-d c = omega (arith, tried-room c.loop-d.invariant.0 (omega arith))

pub loop-d-smaller : goal.loop-d-smaller
loop-d-smaller c = omega (arith, tried-room c.loop-d.invariant.0 (omega arith))

pub loop-d-preserved : goal.loop-d-preserved
loop-d-preserved c = (tried-next c.loop-d.invariant.0 c.if-p-d-eq0.false, omega (arith, tried-room c.loop-d.invariant.0 (omega arith)))

pub returns : goal.returns
returns c = (λ _. tried_all c.loop-d.invariant.0 (omega arith), λ _. refl)

-- `rows::signed`: by the last binary digit of the exponent.
use native.Mathlib.Omega.{arith}
use Rattle.rows.proofs.Value.{signed_even, signed_odd}
use Rattle.rows.proofs.signed.Goals as goal

pub returns-then-n-eq1-clause-is : goal.returns-then-n-eq1-clause-is
returns-then-n-eq1-clause-is c = signed_odd c.args.p.value c.args.n c.args.x (omega arith) (omega arith) c.sub.ensures

pub returns-else-n-eq1-clause-is : goal.returns-else-n-eq1-clause-is
returns-else-n-eq1-clause-is c = signed_even c.args.p.value c.args.n _ (omega arith)

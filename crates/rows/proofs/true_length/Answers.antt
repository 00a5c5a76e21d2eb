-- `rows::true_length`: by the last entry that is not 0.
use Rattle.std.proofs.Common.{rules}
use Rattle.rows.proofs.Trim.{trim-last, trim_zeros}
use Rattle.rows.proofs.true_length.Goals as goal

pub returns-in-Some : goal.returns-in-Some
returns-in-Some c = trim-last c.args.r.now c.in-Some.last (search rules) (search rules) (search rules)

pub returns-in-None : goal.returns-in-None
returns-in-None c = trim_zeros c.args.r.now (search rules)

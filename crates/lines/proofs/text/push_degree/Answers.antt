-- `lines::text::push_degree`: a degree has 10 digits at most.
use Rattle.std.proofs.Common.{rules, arith, ap, length, length-append}
use Rattle.lines.specs.Text.{decimal}
use Rattle.lines.specs.TextLaws.{digits10}
use Rattle.lines.proofs.text.push_degree.Goals as goal

pub push_number-requires : goal.push_number-requires
push_number-requires g c = (search rules, omega (arith, digits10 c.from.result (omega arith)))

pub returns-in-Some-clause-short : goal.returns-in-Some-clause-short
returns-in-Some-clause-short g c =
    omega (arith, ap length c.push_number.ensures, length-append c.args.out.now.bytes (decimal c.from.result), digits10 c.from.result (omega arith))

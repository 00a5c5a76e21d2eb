-- `lines::text::push_number`: the library's digits of a number are its digits.
use Rattle.std.proofs.Common.{rules, arith, ap, ◌∙◌, length, ◌++◌}
use mathlib.Core.List.{List}
use Prim.Native.Nat.{ℕ}
use Rattle.lines.proofs.Rows.{decimal-library}
use Rattle.lines.proofs.text.push_number.Goals as goal

pub push_str-requires : goal.push_str-requires
push_str-requires g c = (search rules, omega (arith, ap length (decimal-library c.args.n (omega arith)), ap length c.format.ensures.text))

pub returns : goal.returns
returns g c =
    c.push_str.ensures.bytes
    ∙ ap (λ (l : List ℕ). c.args.out.now.bytes ++ l) (c.format.ensures.text ∙ decimal-library c.args.n (omega arith))

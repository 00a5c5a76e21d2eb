-- `points::value_at`: the fold is Horner's rule.
use Rattle.std.proofs.Common.{rules, ◌≡◌, ◌+◌, ◌*◌, ◌%◌, reverse, ◌∙◌}
use Rattle.std.proofs.iter.runs.Made.{chains}
use Rattle.std.specs.List.{fold}
use Rattle.points.proofs.Horner.{horner}
use Rattle.points.proofs.value_at.Goals as goal

pub returns : goal.returns
returns c =
    let down : c.fold.result ≡ fold (λ r x. (r * c.args.a + x) % c.args.p) 0 (reverse c.args.coefficients.now) = search (rules, chains) in
    down ∙ horner c.args.p c.args.a c.requires c.args.coefficients.now

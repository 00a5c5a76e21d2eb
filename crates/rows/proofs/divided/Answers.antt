-- `rows::divided`: the divisor made monic, and the division.
use Rattle.std.proofs.Common.{ℕ, List, ap, arith, length, ◌++◌, ◌∙◌}
use Rattle.euclid.specs.Row.{declared}
use Rattle.euclid.specs.Division.{remainder, quotient, count}
use Rattle.euclid.specs.MonicLaws.{monic-declared}
use Rattle.rows.proofs.Chain.{order-length, monic_divides}
use Rattle.rows.proofs.divided.Goals as goal

pub divide-requires : goal.divide-requires
divide-requires c =
    let d = monic_divides c.args.p _ _ c.requires.neighbours c.make_monic.ensures in
    record {
      b_ended = d.ended;
      row_short = c.requires.before_short;
      b_short = omega (arith, d.long, order-length _ _ c.requires.neighbours);
      row_below = c.requires.neighbours.first_below;
      b_below = d.below;
    }

pub returns : goal.returns
returns c =
    let p = c.args.p.value in
    let a = c.args.before.now in
    let monic-is = c.make_monic.ensures in
    record {
      made_monic = monic-is;
      divided = c.divide.ensures.divided ∙ ap (λ (l : List ℕ). remainder p a l ++ quotient p a l) monic-is;
      steps =
          c.divide.ensures.steps ∙ ap (λ (l : List ℕ). count (length a) (declared l)) monic-is ∙ ap (count (length a)) (monic-declared p c.args.r.now);
    }

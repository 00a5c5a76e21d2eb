-- `rows::divisor`: each answer is the front of its row.
use Rattle.std.proofs.Common.{◌<◌, ◌≤◌, arith, length, refl, sym, ◌∙◌}
use Rattle.euclid.specs.Row.{trim}
use Rattle.rows.specs.WhichLaws.{first?_yes, first?_no, lower_first, lower_second}
use Rattle.rows.proofs.Trim.{trim-front, trim-front-length}
use Rattle.rows.proofs.divisor.Goals as goal

pub slice_bounds-result-end : goal.slice_bounds-result-end
slice_bounds-result-end c = trim-front-length _ c.true_length-m.ensures

pub returns-then-m-n : goal.returns-then-m-n
returns-then-m-n c =
    let args = c.args in
    let a = args.a.now in
    let b = args.b.now in
    let less : length (trim a) < length (trim b) = omega arith in
    record {
      stretch = trim-front a c.true_length-m.ensures ∙ sym (lower_first a b less);
      own = rw (first?_yes a b less) refl;
    }

pub slice_bounds-result-end-2 : goal.slice_bounds-result-end-2
slice_bounds-result-end-2 c = trim-front-length _ c.true_length-n.ensures

pub returns : goal.returns
returns c =
    let args = c.args in
    let a = args.a.now in
    let b = args.b.now in
    let most : length (trim b) ≤ length (trim a) = omega arith in
    record {
      stretch = trim-front b c.true_length-n.ensures ∙ sym (lower_second a b most);
      own = rw (first?_no a b most) refl;
    }

-- One name that opens every definition behind the scope, for proofs that compute on numbers.
--
--   computing     on an `unfolding` line: all of them
use Rattle.ring.specs.Ring.{pow, sign}
use Rattle.ring.specs.Sum.{sum, alt}
use Rattle.ring.specs.Det.{det, skip}
use Rattle.ring.specs.Matrix.{stack}
use Rattle.residue.specs.Prime.{prime?}
use Rattle.residue.specs.Residue.{residues, res, val}
use Rattle.residue.specs.Cut.{cut, modulus}
use Rattle.residue.specs.Inverse.{inverse, inv}
use Rattle.polynomial.specs.Convolution.{conv, one, plus, minus, nil}
use Rattle.polynomial.specs.Value.{value}
use Rattle.polynomial.specs.Interpolation.{newton, weight, product, prod, linear}
use Rattle.sylvester.specs.Sylvester.{top, moved, sylvester, resultant}
use Rattle.euclid.specs.Row.{coef, joined, trim, declared, degree, lead, row_determinant}
use Rattle.euclid.specs.Division.{less, entry, rest, divide, remainder, quotient, count}
use Rattle.euclid.specs.Sequence.{monic, following, sequence, turns, steps, final, leads, by_last, formula, by_size, row_resultant, steps_by_size, row_steps}
use Rattle.scope.specs.Pair.{tables, term, place, size, some, largest, occurs, degree_a, degree_b, bound, polynomial, determinant, coefficient}
use Rattle.scope.specs.Point.{tabulate, value_at, row_at, row_a, row_b, kept, usable, needed, room, usables, enough, smallest}
use Rattle.scope.specs.Number.{◌gives◌otherwise◌, ◌then◌, outside, composite, too_high, too_long, empty, misfit, over, no_lead, unended, scarce, open_number, one_shot_number, row_number, plain_number, division_number, among, point_number, lot_number, read_number}
use Rattle.scope.specs.Answers.{only_done, row_value, row_count, plain_value, divided_row, divided_count}

unfoldable pub computing : Unit {0}
unfolding pow sign sum alt det skip stack prime? residues res val cut modulus inverse inv conv one plus minus nil value newton weight product prod linear top moved sylvester resultant coef joined trim declared degree lead row_determinant less entry rest divide remainder quotient count monic following sequence turns steps final leads by_last formula by_size row_resultant steps_by_size row_steps tables term place size some largest occurs degree_a degree_b bound polynomial determinant coefficient tabulate value_at row_at row_a row_b kept usable needed room usables enough smallest ◌gives◌otherwise◌ ◌then◌ outside composite too_high too_long empty misfit over no_lead unended scarce open_number one_shot_number row_number plain_number division_number among point_number lot_number read_number only_done row_value row_count plain_value divided_row divided_count
computing = tt

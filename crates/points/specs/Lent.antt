-- The pair of polynomials that lent tables hold.
--
--   pair_at P     its modulus, its degrees in x, and its coefficients
use Rattle.scope.specs.Pair as scope
use Rattle.scope.specs.Pair.{tables}
use Rattle.points.specs.declared.Pair.{Pair}

abbrev pub pair_at : Pair → scope.Pair
pair_at P = tables P.p.value P.a.m 16 P.b.m 16 P.a.entries.now P.b.entries.now

-- `points::Pair::kept`: each work row holds a row of the pair at the point, and what is returned is their determinant.
use Rattle.std.proofs.Common.{◌+◌, ◌∙◌, ◌≡◌}
use lib.ListN.{replicate}
use Rattle.scope.specs.Pair.{term}
use Rattle.scope.specs.Point.{row_at}
use Rattle.points.proofs.WorkRows.{row_alone, row_is, rows-kept}
use Rattle.points.proofs.Pair.kept.Goals as goal
use Rattle.points.proofs.Pair.kept.Goals.{After-row_at-2}

first : (c : After-row_at-2) → c.row_at.new.out ≡ row_at c.args.self.p.value c.args.self.a.m 16 (term 16 c.args.self.a.entries.now) c.args.y
first c = row_alone (c.args.self.a.m + 1) _ (replicate 17 0) c.row_at.ensures

second : (c : After-row_at-2) → c.row_at-2.new.out ≡ row_at c.args.self.p.value c.args.self.b.m 16 (term 16 c.args.self.b.entries.now) c.args.y
second c = row_alone (c.args.self.b.m + 1) _ (replicate 17 0) c.row_at-2.ensures

pub determinant_in-requires-clause-u_declared : goal.determinant_in-requires-clause-u_declared
determinant_in-requires-clause-u_declared c =
    row_is _ _ _ _ c.args.self.p.least c.args.self.a.fits.rows (first (goal.at.determinant_in-requires-clause-u_declared c).After-row_at-2)

pub determinant_in-requires-clause-w_declared : goal.determinant_in-requires-clause-w_declared
determinant_in-requires-clause-w_declared c =
    row_is _ _ _ _ c.args.self.p.least c.args.self.b.fits.rows (second (goal.at.determinant_in-requires-clause-w_declared c).After-row_at-2)

pub returns : goal.returns
returns c =
    let after = (goal.at.returns c).After-row_at-2 in
    c.determinant_in.ensures ∙ rows-kept _ _ _ _ _ _ (first after) (second after)

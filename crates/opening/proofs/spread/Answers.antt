-- `opening::spread`: each turn lays out one row.
use Rattle.std.proofs.Common.{arith, ap, ◌∙◌, take, drop, ◌+◌, ◌*◌}
use Rattle.opening.proofs.Laying.{row_fits, laid_none, laid_more, laid_all}
use Rattle.opening.proofs.spread.Goals as goal

pub loop-i-init : goal.loop-i-init
loop-i-init c = laid_none

pub slice_bounds-copy_from_slice-end : goal.slice_bounds-copy_from_slice-end
slice_bounds-copy_from_slice-end c = omega (arith, row_fits c.loop-i.i c.args.sheet.given.m c.args.sheet.given.e (omega arith), c.args.sheet.fits)

pub loop-i-preserved : goal.loop-i-preserved
loop-i-preserved c =
    laid_more {m = c.args.sheet.given.m} _ (omega arith) c.args.sheet.e_low (omega arith) c.args.sheet.m_low c.args.sheet.fits c.loop-i.invariant
    (c.copy_from_slice.ensures.after ∙ ap (λ k. take k (drop (c.loop-i.i * (c.args.sheet.given.e + 1)) c.args.sheet.given.entries.now)) (omega arith))

pub returns : goal.returns
returns c = laid_all _ (omega arith) (omega arith) c.args.sheet.fits c.loop-i.invariant (omega arith)

-- `offers::SoundJob::agrees`: the value at the point of what the kept pairs interpolate, and the value that would be kept.
use Rattle.std.proofs.Common.{sym, ◌∙◌, length-take-le}
use Rattle.offers.proofs.Record.{count_below}
use Rattle.offers.proofs.Numbers.{kept_lent}
use Rattle.offers.proofs.Surplus.{table-agrees}
use Rattle.offers.proofs.SoundJob.agrees.Goals as goal

pub slice_bounds-coefficients-end : goal.slice_bounds-coefficients-end
slice_bounds-coefficients-end c = sym (length-take-le _ _ (count_below _ c.args.self.now.sound))

pub interpolate-requires-clause-room : goal.interpolate-requires-clause-room
interpolate-requires-clause-room c = length-take-le _ _ (count_below _ c.args.self.now.sound)

pub returns : goal.returns
returns c = table-agrees _ c.requires _ c.interpolate.ensures c.value_at.ensures (c.kept.ensures ∙ kept_lent _ _ _ c.pair.ensures)

-- `stream::next_record`: a body has seven bytes at most.
use Rattle.std.proofs.Common.{sym}
use lib.Seq.{length-take-le}
use Rattle.decks.specs.StepLaws.{body_low}
use Rattle.stream.proofs.next_record.Goals as goal

pub slice_bounds-fill-end-2 : goal.slice_bounds-fill-end-2
slice_bounds-fill-end-2 g c = sym (length-take-le c.body_length-need.result _ (rw c.body_length-need.ensures (body_low _)))

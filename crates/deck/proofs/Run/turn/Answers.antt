-- `deck::Run::turn`: a failed read leaves the writer as it was.
use Rattle.std.proofs.Common.{rules}
use Rattle.std.proofs.lemmas.Result.{err_from_is_err_and}
use Rattle.deck.specs.RunLaws.{turned_unread}
use Rattle.deck.proofs.Run.turn.Goals as goal

pub returns-in_err-stops : goal.returns-in_err-stops
returns-in_err-stops g c =
    let p = err_from_is_err_and c.from_residual.result c.from_residual.ensures.1 in
    rw (p.1, p.2)
    (turned_unread _ _ _ _ _ c.in_err-stops.field-0.0 _ _ _ c.in_err-stops.ensures (search rules) (search rules) (search rules))

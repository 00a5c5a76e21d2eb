-- `deck::Run::finish`: some arrivals led to where the run stands, with what was read and written on the way, 8 bytes at most in
-- each turn.
use Rattle.std.proofs.Common.{◌*◌, ◌≤◌}
use Rattle.deck.specs.RunLaws.{Keeps}
use Rattle.deck.proofs.Run.finish.Given as goal

abbrev pub invariant-loop-turn : goal.invariant-loop-turn
invariant-loop-turn g l =
    record {
      few : l.self.offset ≤ 8 * l._turn;
      keeps :
          Keeps (g.R.Read.remaining l.fn.input) (g.R.Read.remaining l.input) (g.W.Write.contents l.fn.output) (g.W.Write.contents l.output) l._turn l.self;
    }

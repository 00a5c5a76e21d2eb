-- `deck::Run::finish`: a turn goes on from where the run stands.
use Rattle.std.proofs.Common.{arith, ap, ◌∙◌, Bool, Ok}
use Rattle.std.proofs.lemmas.Result.{err_from_is_err_and}
use Rattle.deck.specs.RunLaws.{past_low, keeps_start, keeps_on, played_stopped, played_failed, played_spent}
use Rattle.deck.proofs.Run.finish.Goals as goal

pub loop-turn-init : goal.loop-turn-init
loop-turn-init g c = record { few = omega arith; keeps = keeps_start _ _ _ c.requires.0 c.requires.1 }

pub returns : goal.returns
returns g c = played_spent _ _ _ _ _ _ c.loop-turn.invariant.keeps (omega arith)

pub returns-in_err-turn : goal.returns-in_err-turn
returns-in_err-turn g c =
    let p = err_from_is_err_and c.from_residual.result c.from_residual.ensures.1 in
    rw (p.1, p.2)
    (played_failed _ _ _ _ _ _ _ _ c.turn.new.self _ _ c.turn.result c.loop-turn.invariant.keeps c.turn.ensures c.in_err-turn.field-0.0 c.in_err-turn.was)

pub returns-then-branch : goal.returns-then-branch
returns-then-branch g c =
    played_stopped _ _ _ _ _ _ _ _ c.turn.new.self _ _ c.turn.result c.loop-turn.invariant.keeps c.turn.ensures
    (c.in_ok-turn.was ∙ ap (λ (stops : Bool). Ok stops) c.if-branch.true)

pub loop-turn-preserved : goal.loop-turn-preserved
loop-turn-preserved g c =
    let turn = c.turn.ensures in record {
      few = omega (arith, turn.goes.offset, past_low turn.arrival);
      keeps =
          keeps_on _ _ _ _ _ _ _ _ c.turn.new.self _ _ c.turn.result c.loop-turn.invariant.keeps turn
          (c.in_ok-turn.was ∙ ap (λ (stops : Bool). Ok stops) c.if-branch.false);
    }

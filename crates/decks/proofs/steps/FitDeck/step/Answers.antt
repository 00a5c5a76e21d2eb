-- `decks::steps::FitDeck::step`: the refusal of the deck, or the step of a record that is not refused.
use Rattle.std.proofs.Common.{ℕ, refl, sym, ap, ◌∙◌, [], ◌∷◌}
use Rattle.lines.specs.Text.{line, deck_word}
use Rattle.decks.specs.DeckLaws.{stepped_refused}
use Rattle.decks.specs.StepLaws.{stepped-settled}
use Rattle.decks.proofs.Settling.{nonzero}
use Rattle.decks.proofs.steps.FitDeck.step.Goals as goal

pub returns-in-Ok : goal.returns-in-Ok
returns-in-Ok g c =
    let (kind, fine) = c.in-Ok.ensures in
    rw (stepped-settled c.args.self.now.state c.args.kind c.args.body.now c.args.offset fine, ← kind) c.settle.ensures

pub returns-in-Err : goal.returns-in-Err
returns-in-Err g c =
    let number = c.in-Err.ensures in
    rw (stepped_refused c.args.self.now.state c.args.kind c.args.body.now c.args.offset (λ e. nonzero _ (sym number ∙ e)))
    (record {
      state = refl;
      halted = refl;
      line = c.write.ensures ∙ ap (λ (r : ℕ). line deck_word (r ∷ c.args.offset ∷ [])) (c.number-number.ensures ∙ sym number);
    })

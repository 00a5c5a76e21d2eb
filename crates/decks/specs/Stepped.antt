-- What one record does to a run.
--
--   Stepped                          what a step leaves: the state, the text to print, and whether the run stops
--   stepped d k body offset          the step of a record of kind k, its kind byte at `offset`, of whose body `body` arrived
use Rattle.std.specs.Prelude.{ℕ, Bool, true, cond, List, [], ◌∷◌, eqb}
use Rattle.decks.specs.declared.Deck.{Deck}
use Rattle.lines.specs.Text.{line, deck_word}
use Rattle.decks.specs.Deck.{deck_number, taken, line_of, stops}

pub record Stepped : Type 0 where
  pub state : Deck
  pub text : List ℕ
  pub halt : Bool

unfoldable pub stepped : Deck → ℕ → List ℕ → ℕ → Stepped
stepped d k body offset =
    cond (eqb (deck_number d k body) 0)
    (record { state = taken d k body; text = line_of d k body; halt = stops d k })
    (record { state = d; text = line deck_word (deck_number d k body ∷ offset ∷ []); halt = true })

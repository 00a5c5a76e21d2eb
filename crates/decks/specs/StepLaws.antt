-- Laws of steps.
--
--   stepped-settled     a record that is not refused
--   stepped_fit         a state that is fit stays so, whatever the record
--   body_low            a body has 7 bytes at most
use Rattle.std.specs.Prelude.{ℕ, ◌≤◌, Bool, true, false, cond, ◌||◌, List, ◌≡◌, eqb}
use Rattle.std.proofs.Common.{arith}
use Rattle.std.proofs.Math.Decide.{ℕ_discrete}
use Rattle.decks.specs.declared.Deck.{Deck}
use Rattle.decks.specs.Deck.{body_length, deck_number}
use Rattle.decks.specs.DeckLaws.{stepped_refused, stepped-taken}
use Rattle.decks.specs.Stepped.{stepped}
use Rattle.decks.specs.State.{Fit, taken_fit}
use Rattle.decks.specs.Step.{settled}

pub stepped-settled : (d : Deck) (k : ℕ) (body : List ℕ) (offset : ℕ) → deck_number d k body ≡ 0 → stepped d k body offset ≡ settled d k body
unfolding settled
stepped-settled d k body offset e = stepped-taken d k body offset e

pub stepped_fit : (d : Deck) (k : ℕ) (body : List ℕ) (offset : ℕ) → Fit d → Fit (stepped d k body offset).state
stepped_fit d k body offset fit =
    elim (ℕ_discrete (deck_number d k body) 0) [
      | yes e ↦ rw (stepped-taken d k body offset e) (taken_fit d fit k body e)
      | no e ↦ rw (stepped_refused d k body offset e) fit
    ]

pub body_low : (k : ℕ) → body_length k ≤ 7
unfolding body_length
body_low k = low (eqb k 3) (eqb k 1 || eqb k 2 || eqb k 5)
  where
    low : (t u : Bool) → cond t 7 (cond u 4 0) ≤ 7
    low true u = omega arith
    low false true = omega arith
    low false false = omega arith

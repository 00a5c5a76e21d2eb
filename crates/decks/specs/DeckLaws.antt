-- A run as a loop of steps, and that the loop prints and leaves what the definition says.
--
--   stepped_refused                  the step of a record with a deck refusal
--   stepped-taken                    the step of any other
--   follow s on                      stop where the step says so, else print its text and go on from its state
--   stepping fuel offset d bytes     the loop: a byte of kind, what arrived of its body, a step; `end` at the end of input
--   taken_stopped                    a refused opening leaves the state as it is
--   stepping-from                    the loop is the definition
--   from-enough                      room for more records than there are bytes changes nothing
--   deck-stepping                    so a loop with that much room is the whole deck
use Rattle.std.specs.Prelude.{ℕ, zero, suc, ◌+◌, ◌<◌, Bool, true, false, cond, not, List, [], ◌∷◌, ◌≡◌, refl, eqb, length, take, drop}
use Rattle.std.proofs.Common.{ap, ◌∙◌, arith, length-drop, eqb-true, eq-eqb, ne_eqb}
use Rattle.std.proofs.lemmas.Bool.{not-true}
use Rattle.scope.specs.Usable.{and_true}
use Rattle.decks.specs.declared.Deck.{Deck}
use Rattle.lines.specs.Text.{line, deck_word, end_word}
use Rattle.decks.specs.Deck.{body_length, deck_number, opening, taken, line_of, stops, Outcome, before, halted, from, fresh, deck}
use Rattle.decks.specs.Stepped.{Stepped, stepped}

pub stepped_refused : (d : Deck) (k : ℕ) (body : List ℕ) (offset : ℕ) → (deck_number d k body ≡ 0 → ⊥) → stepped d k body offset ≡ record { state = d; text = line deck_word (deck_number d k body ∷ offset ∷ []); halt = true }
unfolding stepped
stepped_refused d k body offset h = rw (ne_eqb (deck_number d k body) 0 h) refl

pub stepped-taken : (d : Deck) (k : ℕ) (body : List ℕ) (offset : ℕ) → deck_number d k body ≡ 0 → stepped d k body offset ≡ record { state = taken d k body; text = line_of d k body; halt = stops d k }
unfolding stepped
stepped-taken d k body offset h = rw (eq-eqb (deck_number d k body) 0 h) refl

unfoldable pub follow : Stepped → (Deck → Outcome) → Outcome
follow s on = elim s.halt [ true ↦ halted s.text s.state | false ↦ before s.text (on s.state) ]

unfoldable pub stepping : ℕ → ℕ → Deck → List ℕ → Outcome
stepping zero offset d bytes = halted [] d
stepping (suc fuel) offset d [] = halted (line end_word []) d
stepping (suc fuel) offset d (k ∷ rest) =
    follow (stepped d k (take (body_length k) rest) offset)
    (λ e. stepping fuel (offset + 1 + body_length k) e (drop (body_length k) rest))

pub taken_stopped : (d : Deck) (k : ℕ) (body : List ℕ) → stops d k ≡ true → taken d k body ≡ d
unfolding stops taken
taken_stopped d k body e =
    let (four, refused) = and_true (eqb k 4) (not (eqb (opening d) 0)) e in
    rw (eqb-true k 4 four, not-true (eqb (opening d) 0) refused) refl

-- one step, whatever follows
follow_step : (t h : Bool) (d e : Deck) (text refusal : List ℕ) (on : Deck → Outcome) (o : Outcome) → (h ≡ true → e ≡ d) → on e ≡ o → follow (cond t (record { state = e; text = text; halt = h }) (record { state = d; text = refusal; halt = true })) on ≡ cond t (cond h (halted text d) (before text o)) (halted refusal d)
unfolding follow
follow_step true true d e text refusal on o same p = ap (halted text) (same refl)
follow_step true false d e text refusal on o same p = ap (before text) p
follow_step false true d e text refusal on o same p = refl
follow_step false false d e text refusal on o same p = refl

pub stepping-from : (fuel offset : ℕ) (d : Deck) (bytes : List ℕ) → stepping fuel offset d bytes ≡ from fuel offset d bytes
unfolding stepping from stepped
stepping-from zero offset d bytes = refl
stepping-from (suc fuel) offset d [] = refl
stepping-from (suc fuel) offset d (k ∷ rest) =
    let body = take (body_length k) rest in
    let more = drop (body_length k) rest in
    let next = offset + 1 + body_length k in
    follow_step (eqb (deck_number d k body) 0) (stops d k) d (taken d k body) (line_of d k body)
    (line deck_word (deck_number d k body ∷ offset ∷ []))
    (λ e. stepping fuel next e more) (from fuel next (taken d k body) more)
    (taken_stopped d k body) (stepping-from fuel next (taken d k body) more)

fuel-enough : (f g offset : ℕ) (d : Deck) (bytes : List ℕ) → length bytes < f → length bytes < g → from f offset d bytes ≡ from g offset d bytes
unfolding from
fuel-enough zero g offset d bytes a b = absurd (omega arith)
fuel-enough (suc f) zero offset d bytes a b = absurd (omega arith)
fuel-enough (suc f) (suc g) offset d [] a b = refl
fuel-enough (suc f) (suc g) offset d (k ∷ rest) a b =
    let body = take (body_length k) rest in
    let more = drop (body_length k) rest in
    let shorter = length-drop (body_length k) rest in
    ap (λ (o : Outcome). cond (eqb (deck_number d k body) 0) (cond (stops d k) (halted (line_of d k body) d) (before (line_of d k body) o)) (halted (line deck_word (deck_number d k body ∷ offset ∷ [])) d))
    (fuel-enough f g (offset + 1 + body_length k) (taken d k body) more (omega arith) (omega arith))

pub from-enough : (fuel offset : ℕ) (d : Deck) (bytes : List ℕ) → length bytes < fuel → from fuel offset d bytes ≡ from (suc (length bytes)) offset d bytes
from-enough fuel offset d bytes h = fuel-enough fuel (suc (length bytes)) offset d bytes h (omega arith)

pub deck-stepping : (fuel : ℕ) (bytes : List ℕ) → length bytes < fuel → stepping fuel 0 fresh bytes ≡ deck bytes
unfolding deck
deck-stepping fuel bytes h = stepping-from fuel 0 fresh bytes ∙ from-enough fuel 0 fresh bytes h

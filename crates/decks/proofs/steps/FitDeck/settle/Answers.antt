-- `decks::steps::FitDeck::settle`: each kind in turn.
use Rattle.std.proofs.Common.{rules, arith, refl, sym, subst, ◌∙◌}
use Rattle.decks.specs.Deck.{body_length}
use Rattle.decks.specs.State.{Fit, taken_fit}
use Rattle.decks.proofs.Settling.{whole, within-tables, open_stage, silent, taken-modulus, taken_degrees, taken-place, settled_open, step_point, step_read}
use Rattle.decks.proofs.steps.FitDeck.settle.Goals as goal

pub set_modulus-requires : goal.set_modulus-requires
unfolding body_length
set_modulus-requires g c = omega (arith, rw c.in-Modulus.is at (whole _ _ _ c.requires.admitted))

pub set_degrees-requires : goal.set_degrees-requires
unfolding body_length
set_degrees-requires g c = omega (arith, rw c.in-Degrees.is at (whole _ _ _ c.requires.admitted))

pub set_place-requires-clause-whole : goal.set_place-requires-clause-whole
unfolding body_length
set_place-requires-clause-whole g c = omega (arith, rw c.in-Place.is at (whole _ _ _ c.requires.admitted))

pub set_place-requires-clause-inside : goal.set_place-requires-clause-inside
set_place-requires-clause-inside g c =
    within-tables _ _ _ c.requires.admitted c.args.self.now.fit (rw c.in-Place.is refl)

pub number4-requires : goal.number4-requires
unfolding body_length
number4-requires g c = omega (arith, rw c.in-Point.is at (whole _ _ _ c.requires.admitted))

pub offer-requires : goal.offer-requires
offer-requires g c = (search rules, (open_stage _ _ _ c.requires.admitted (rw c.in-Point.is (omega arith)), omega arith))

pub read-requires : goal.read-requires
read-requires g c = (search rules, (open_stage _ _ _ c.requires.admitted (rw c.in-Read.is (omega arith)), omega arith))

pub invariant_of-self : goal.invariant_of-self
invariant_of-self g c =
    let next = c.set_modulus.ensures ∙ taken-modulus _ _ _ c.in-Modulus.is in
    record { fit = subst Fit (sym next) (taken_fit _ c.args.self.now.fit _ _ c.requires.admitted) }

pub invariant_of-self-in-Degrees : goal.invariant_of-self-in-Degrees
invariant_of-self-in-Degrees g c =
    let next = c.set_degrees.ensures ∙ taken_degrees _ _ _ c.in-Degrees.is in
    record { fit = subst Fit (sym next) (taken_fit _ c.args.self.now.fit _ _ c.requires.admitted) }

pub invariant_of-self-in-Place : goal.invariant_of-self-in-Place
invariant_of-self-in-Place g c =
    let next = c.set_place.ensures ∙ taken-place _ _ _ c.in-Place.is in
    record { fit = subst Fit (sym next) (taken_fit _ c.args.self.now.fit _ _ c.requires.admitted) }

pub returns-in-Modulus : goal.returns-in-Modulus
returns-in-Modulus g c =
    silent _ _ _ _ _ (rw c.in-Modulus.is (omega arith)) (c.set_modulus.ensures ∙ taken-modulus _ _ _ c.in-Modulus.is) c.clear.ensures

pub returns-in-Degrees : goal.returns-in-Degrees
returns-in-Degrees g c =
    silent _ _ _ _ _ (rw c.in-Degrees.is (omega arith)) (c.set_degrees.ensures ∙ taken_degrees _ _ _ c.in-Degrees.is) c.clear.ensures

pub returns-in-Place : goal.returns-in-Place
returns-in-Place g c =
    silent _ _ _ _ _ (rw c.in-Place.is (omega arith)) (c.set_place.ensures ∙ taken-place _ _ _ c.in-Place.is) c.clear.ensures

pub returns-in-Open : goal.returns-in-Open
returns-in-Open g c = rw (c.in-Open.is, settled_open) c.open.ensures

pub returns-in-Point : goal.returns-in-Point
returns-in-Point g c = rw c.in-Point.is (step_point _ _ _ _ _ c.number4.ensures c.offer.ensures.state c.offer.ensures.line)

pub returns-in-Read : goal.returns-in-Read
returns-in-Read g c = rw c.in-Read.is (step_read _ _ _ c.read.ensures)

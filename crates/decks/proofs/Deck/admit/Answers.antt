-- `decks::Deck::admit`: each return is the first refusal that the tests find.
use Rattle.std.proofs.Common.{ℕ, ◌<◌, ◌≤◌, Bool, true, false, not, ◌&&◌, List, ◌≡◌, refl, sym, ap, ◌∙◌, arith, length}
use Rattle.std.proofs.lemmas.Result.{err_from_is_err_and}
use borrow.Author.Tests.{lt-ltb, le-ltb}
use Rattle.std.proofs.Math.Dec.{eqb}
use Rattle.scope.specs.Number.{◌gives◌otherwise◌}
use Rattle.decks.specs.declared.Deck.{Deck}
use Rattle.decks.specs.declared.records.Kind.{Kind}
use Rattle.decks.specs.declared.records.Kind.TheVariants.{Modulus, Degrees, Place, Open, Point, Read}
use Rattle.decks.specs.Deck.{known, body_length, in_order, astray, deck_number}
use Rattle.decks.specs.Kind.{kind_number}
use Rattle.decks.specs.Refusal.{steep, number_unknown, number_cut, number-order, number-shape}
use Rattle.decks.proofs.Deck.admit.Goals as goal

in_table : (n : Kind) → not (known (kind_number n)) ≡ false
unfolding known
in_table Modulus = refl
in_table Degrees = refl
in_table Place = refl
in_table Open = refl
in_table Point = refl
in_table Read = refl

-- what the last two tests say of each kind
shape : Kind → Bool → Bool → ℕ
shape n s t = (eqb (kind_number n) 2 && s) gives 4 otherwise (eqb (kind_number n) 3 && t) gives 24 otherwise 0

shape-others : (n : Kind) (s t : Bool) → (n ≡ Degrees → ⊥) → (n ≡ Place → ⊥) → shape n s t ≡ 0
unfolding ◌gives◌otherwise◌ shape
shape-others Modulus s t a b = refl
shape-others Degrees s t a b = absurd (a refl)
shape-others Place s t a b = absurd (b refl)
shape-others Open s t a b = refl
shape-others Point s t a b = refl
shape-others Read s t a b = refl

-- a record of the kind n
module _ (d : Deck) (n : Kind) (k : ℕ) (body : List ℕ) (kind : kind_number n ≡ k) where
  cut : length body < body_length (kind_number n) → deck_number d k body ≡ 22
  cut h = rw (← kind) (number_cut d (kind_number n) body (in_table n) (lt-ltb (length body) (body_length (kind_number n)) h))

  disorder : body_length (kind_number n) ≤ length body → in_order d.stage (kind_number n) ≡ false → deck_number d k body ≡ 23
  disorder h o = rw (← kind) (number-order d (kind_number n) body (in_table n) (le-ltb (length body) (body_length (kind_number n)) h) (ap not o))

  here : body_length (kind_number n) ≤ length body → in_order d.stage (kind_number n) ≡ true → deck_number d k body ≡ shape n (steep body) (astray d body)
  unfolding shape
  here h o =
      rw (← kind)
      (number-shape d (kind_number n) body
      (record { kind = in_table n; whole = le-ltb (length body) (body_length (kind_number n)) h; order = ap not o }))

pub returns-in_err-known : goal.returns-in_err-known
returns-in_err-known c =
    let p = err_from_is_err_and c.from_residual.result c.from_residual.ensures.1 in
    rw (p.1, p.2, c.in_err-known.ensures.0) (number_unknown c.args.self.now c.args.kind c.args.body.now (ap not c.in_err-known.ensures.1))

pub returns-then-body-body_length : goal.returns-then-body-body_length
returns-then-body-body_length c = cut c.args.self.now c.in_ok-known.known c.args.kind c.args.body.now c.in_ok-known.ensures (omega arith)

pub returns-then-not-admits : goal.returns-then-not-admits
returns-then-not-admits c =
    disorder c.args.self.now c.in_ok-known.known c.args.kind c.args.body.now c.in_ok-known.ensures (omega arith) (sym c.admits.ensures ∙ c.if-not-admits.true)

pub returns-then-too_high : goal.returns-then-too_high
unfolding ◌gives◌otherwise◌ shape
returns-then-too_high c =
    here c.args.self.now c.in_ok-known.known c.args.kind c.args.body.now c.in_ok-known.ensures (omega arith) (sym c.admits.ensures ∙ c.if-not-admits.false)
    ∙ rw (c.in-Degrees.is, ← c.too_high.ensures, c.if-too_high.true) refl

pub returns-then-astray : goal.returns-then-astray
unfolding ◌gives◌otherwise◌ shape
returns-then-astray c =
    here c.args.self.now c.in_ok-known.known c.args.kind c.args.body.now c.in_ok-known.ensures (omega arith) (sym c.admits.ensures ∙ c.if-not-admits.false)
    ∙ rw (c.in-Place.is, ← c.astray.ensures, c.if-astray.true) refl

pub returns-else-too_high : goal.returns-else-too_high
unfolding ◌gives◌otherwise◌ shape
returns-else-too_high c = (
  c.in_ok-known.ensures,
  here c.args.self.now c.in_ok-known.known c.args.kind c.args.body.now c.in_ok-known.ensures (omega arith) (sym c.admits.ensures ∙ c.if-not-admits.false)
      ∙ rw (c.in-Degrees.is, ← c.too_high.ensures, c.if-too_high.false) refl,
)

pub returns-else-astray : goal.returns-else-astray
unfolding ◌gives◌otherwise◌ shape
returns-else-astray c = (
  c.in_ok-known.ensures,
  here c.args.self.now c.in_ok-known.known c.args.kind c.args.body.now c.in_ok-known.ensures (omega arith) (sym c.admits.ensures ∙ c.if-not-admits.false)
      ∙ rw (c.in-Place.is, ← c.astray.ensures, c.if-astray.false) refl,
)

pub returns-in_default : goal.returns-in_default
returns-in_default c = (
  c.in_ok-known.ensures,
  here c.args.self.now c.in_ok-known.known c.args.kind c.args.body.now c.in_ok-known.ensures (omega arith) (sym c.admits.ensures ∙ c.if-not-admits.false)
      ∙ shape-others c.in_ok-known.known _ _ c.in_default.not-Degrees c.in_default.not-Place,
)

-- The refusals of a deck, one by one.
--
--   steep body                  a degree above 16 among the four of a body
--   Arrived d k body            a record of a known kind, whole and in order
--   number_unknown              21: no such kind
--   number_cut                  22: the body is cut off
--   number-order                23: out of order
--   number-shape                4, 24 or 0: what is left for a record that has arrived
--   Passed d k body             what a record that is not refused satisfies
--   passed                      the number 0 says so
--   whole_body                  its body is all there
--   Low, low_degrees            its degrees are 16 at most
--   within_a, within_b          its place is within the declared degrees of its side
--   stage-modulus               a record of kind 1 finds no modulus,
--   stage_degrees               one of kind 2 no degrees,
--   stage-place                 one of kind 3 no open job,
--   stage_open                  an offer or a read an open job
use Rattle.std.specs.Prelude.{ℕ, ◌≤◌, ◌<◌, Bool, true, false, not, ◌&&◌, ◌||◌, cond, List, ◌≡◌, ltb, length}
use Rattle.std.proofs.Math.Path.{refl}
use Rattle.std.proofs.Common.{arith}
use Rattle.std.proofs.Math.Dec.{eqb}
use borrow.Author.Tests.{ltb-false, eqb-true, ne_eqb, not-false}
use Rattle.scope.specs.Number.{◌gives◌otherwise◌, too_high}
use Rattle.scope.specs.Search.{or_false}
use Rattle.scope.specs.TestLaws.{gives-zero, too_high_false}
use Rattle.decks.specs.declared.Stage.{Stage}
use Rattle.decks.specs.declared.Stage.TheVariants.{NoModulus, NoDegrees, Unopened, Opened}
use Rattle.decks.specs.declared.Deck.{Deck}
use Rattle.decks.specs.Deck.{known, body_length, byte, in_order, astray, deck_number}

unfoldable pub steep : List ℕ → Bool
steep body = too_high (byte body 0) || too_high (byte body 1) || too_high (byte body 2) || too_high (byte body 3)

pub record Arrived (d : Deck) (k : ℕ) (body : List ℕ) : Type 0 where
  pub kind : not (known k) ≡ false
  pub whole : ltb (length body) (body_length k) ≡ false
  pub order : not (in_order d.stage k) ≡ false

module _ (d : Deck) (k : ℕ) (body : List ℕ) where
  pub number_unknown : not (known k) ≡ true → deck_number d k body ≡ 21
  unfolding deck_number ◌gives◌otherwise◌
  number_unknown a = rw a refl

  pub number_cut : not (known k) ≡ false → ltb (length body) (body_length k) ≡ true → deck_number d k body ≡ 22
  unfolding deck_number ◌gives◌otherwise◌
  number_cut a b = rw (a, b) refl

  pub number-order : not (known k) ≡ false → ltb (length body) (body_length k) ≡ false → not (in_order d.stage k) ≡ true → deck_number d k body ≡ 23
  unfolding deck_number ◌gives◌otherwise◌
  number-order a b o = rw (a, b, o) refl

  pub number-shape : Arrived d k body → deck_number d k body ≡ ((eqb k 2 && steep body) gives 4 otherwise (eqb k 3 && astray d body) gives 24 otherwise 0)
  unfolding deck_number ◌gives◌otherwise◌ steep
  number-shape h = rw (h.kind, h.whole, h.order) refl

  pub record Passed : Type 0 where
    pub arrived : Arrived d k body
    pub level : (eqb k 2 && steep body) ≡ false
    pub placed : (eqb k 3 && astray d body) ≡ false

  pub passed : deck_number d k body ≡ 0 → Passed
  unfolding deck_number steep
  passed e =
      let (kind, r) = (gives-zero (not (known k)) 21 _ (omega arith)).0 e in
      let (whole, r2) = (gives-zero (ltb (length body) (body_length k)) 22 _ (omega arith)).0 r in
      let (order, r3) = (gives-zero (not (in_order d.stage k)) 23 _ (omega arith)).0 r2 in
      let (level, r4) = (gives-zero (eqb k 2 && steep body) 4 _ (omega arith)).0 r3 in
      let (placed, r5) = (gives-zero (eqb k 3 && astray d body) 24 0 (omega arith)).0 r4 in
      record {
        arrived = record { kind = kind; whole = whole; order = order };
        level = level;
        placed = placed;
      }

  pub whole_body : Arrived d k body → body_length k ≤ length body
  whole_body h = ltb-false (length body) (body_length k) h.whole

pub record Low (body : List ℕ) : Type 0 where
  pub first : byte body 0 ≤ 16
  pub second : byte body 1 ≤ 16
  pub third : byte body 2 ≤ 16
  pub fourth : byte body 3 ≤ 16

pub low_degrees : (body : List ℕ) → steep body ≡ false → Low body
unfolding steep
low_degrees body e =
    let (three, d) = or_false (too_high (byte body 0) || too_high (byte body 1) || too_high (byte body 2)) (too_high (byte body 3)) e in
    let (two, c) = or_false (too_high (byte body 0) || too_high (byte body 1)) (too_high (byte body 2)) three in
    let (a, b) = or_false (too_high (byte body 0)) (too_high (byte body 1)) two in
    record {
      first = (too_high_false (byte body 0)).0 a;
      second = (too_high_false (byte body 1)).0 b;
      third = (too_high_false (byte body 2)).0 c;
      fourth = (too_high_false (byte body 3)).0 d;
    }

-- a place that is not past two bounds
within : (x y i j : ℕ) → (ltb x i || ltb y j) ≡ false → (i ≤ x) × (j ≤ y)
within x y i j e = let (a, b) = or_false (ltb x i) (ltb y j) e in (ltb-false x i a, ltb-false y j b)

module _ (d : Deck) (body : List ℕ) (e : astray d body ≡ false) where
  shape : cond (eqb (byte body 0) 0) (ltb d.m (byte body 1) || ltb d.e (byte body 2)) (ltb d.n (byte body 1) || ltb d.f (byte body 2)) ≡ false
  unfolding astray
  shape = (or_false (ltb 1 (byte body 0)) _ e).1

  pub within_a : eqb (byte body 0) 0 ≡ true → (byte body 1 ≤ d.m) × (byte body 2 ≤ d.e)
  within_a t = within d.m d.e (byte body 1) (byte body 2) (rw t at shape)

  pub within_b : eqb (byte body 0) 0 ≡ false → (byte body 1 ≤ d.n) × (byte body 2 ≤ d.f)
  within_b t = within d.n d.f (byte body 1) (byte body 2) (rw t at shape)

-- the stage at which a record is in order
modulus_first : (stage : Stage) → in_order stage 1 ≡ true → stage ≡ NoModulus
unfolding in_order
modulus_first NoModulus e = refl
modulus_first NoDegrees e = cc
modulus_first Unopened e = cc
modulus_first Opened e = cc

degrees_second : (stage : Stage) → in_order stage 2 ≡ true → stage ≡ NoDegrees
unfolding in_order
degrees_second NoModulus e = cc
degrees_second NoDegrees e = refl
degrees_second Unopened e = cc
degrees_second Opened e = cc

places_third : (stage : Stage) → in_order stage 3 ≡ true → stage ≡ Unopened
unfolding in_order
places_third NoModulus e = cc
places_third NoDegrees e = cc
places_third Unopened e = refl
places_third Opened e = cc

rest_last : (stage : Stage) (k : ℕ) → 4 < k → in_order stage k ≡ true → stage ≡ Opened
unfolding in_order
rest_last NoModulus k late e = absurd (omega (arith, eqb-true k 1 e))
rest_last NoDegrees k late e = absurd (omega (arith, eqb-true k 2 e))
rest_last Unopened k late e = let none = rw (ne_eqb k 3 (omega arith), ne_eqb k 4 (omega arith)) at e in cc
rest_last Opened k late e = refl

module _ (d : Deck) (k : ℕ) (body : List ℕ) (h : Arrived d k body) where
  order : in_order d.stage k ≡ true
  order = not-false (in_order d.stage k) h.order

  pub stage-modulus : k ≡ 1 → d.stage ≡ NoModulus
  stage-modulus e = modulus_first d.stage (rw e at order)

  pub stage_degrees : k ≡ 2 → d.stage ≡ NoDegrees
  stage_degrees e = degrees_second d.stage (rw e at order)

  pub stage-place : k ≡ 3 → d.stage ≡ Unopened
  stage-place e = places_third d.stage (rw e at order)

  pub stage_open : 4 < k → d.stage ≡ Opened
  stage_open late = rest_last d.stage k late order

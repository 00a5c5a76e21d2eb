-- The kept pairs of a record, tested one by one.
--
--   at_tests       a pair is kept where its point is below p, new and usable, and its value is the point's own
--   Kept P points values i    the pair at i would have been kept after those before it
--   Lost P points values i    it would not
--   tests          these, for the tests of one pair
--   pairs_tested   the test of all pairs holds exactly where each would have been kept
use Rattle.std.specs.Prelude.{ℕ, ◌+◌, ◌<◌, Bool, true, false, not, ◌&&◌, List, [], map, ◌≡◌, refl, leb, eqb, length, get_or, take}
use Rattle.std.proofs.Common.{arith, ap, sym, ◌∙◌, subst, length-take-le, get_or-take}
use Rattle.std.proofs.Math.Bool.{and-eq-true_iff}
use Rattle.std.proofs.lemmas.Bool.Decides.{nat_tests}
use Rattle.std.proofs.lemmas.Grind.{common_steps}
use Rattle.std.specs.Bool.{MatchBool}
use Rattle.std.specs.List.{AllWithin, HoldsAt, range_with_len}
use Rattle.std.proofs.lemmas.List.FromFn.{length-range_with_len, get_or-range_with_len}
use Rattle.std.proofs.lemmas.List.{length-map, ext_get_or, get_or-map}
use Rattle.scope.specs.Pair.{Pair}
use Rattle.scope.specs.Point.{usable, kept}
use Rattle.scope.specs.Number.{◌gives◌otherwise◌, among, point_number}
use Rattle.scope.specs.TestLaws.{among_false, point_number-zero}
use Rattle.job.specs.Sound.{same, good}
use Rattle.job.specs.SoundTests.{both_true, same_true, Good, good_true}
use Rattle.offers.specs.Among.{among_any}
use Rattle.sounding.specs.Parts.{kept_at, kept_pairs}

point_tests : (l a u b : Bool) → (eqb (l gives 10 otherwise a gives 12 otherwise not u gives 11 otherwise 0) 0 && b) ≡ (not l && not a && u && b)
unfolding ◌gives◌otherwise◌
point_tests true a u b = refl
point_tests false true u b = refl
point_tests false false true b = refl
point_tests false false false b = refl

pub at_tests : (P : Pair) (before : List ℕ) (a value : ℕ)
    → kept_at P before a value ≡ (not (leb P.p a) && not (among a before) && usable P a && eqb value (kept P a))
unfolding kept_at point_number
at_tests P before a value = point_tests (leb P.p a) (among a before) (usable P a) (eqb value (kept P a))

pub ruleset tests = (nat_tests, at_tests, among_any)

abbrev pub Kept : Pair → List ℕ → List ℕ → ℕ → Type 0
Kept P points values i = kept_at P (take i points) (get_or points i 0) (get_or values i 0) ≡ true

abbrev pub Lost : Pair → List ℕ → List ℕ → ℕ → Type 0
Lost P points values i = kept_at P (take i points) (get_or points i 0) (get_or values i 0) ≡ false

module _ (P : Pair) (points values : List ℕ) where
  module _ (i : ℕ) where
    pub Fine : Type 0
    Fine = (get_or points i 0 < P.p) × (among (get_or points i 0) (take i points) ≡ false) × (usable P (get_or points i 0) ≡ true)

    at_each : Kept P points values i → Fine × (get_or values i 0 ≡ kept P (get_or points i 0))
    unfolding kept_at Fine
    at_each h = ((point_number-zero P (take i points) (get_or points i 0)).0 (grind (arith, common_steps)), grind (arith, common_steps))

    each_at : Fine → get_or values i 0 ≡ kept P (get_or points i 0) → Kept P points values i
    unfolding kept_at Fine
    each_at f e = let zero = (point_number-zero P (take i points) (get_or points i 0)).1 f in grind (arith, common_steps)

  before_at : (i k : ℕ) → i < length points → k < i → get_or (take i points) k 0 ≡ get_or points k 0
  before_at i k l h = get_or-take i points k 0 h

  pairs_each : kept_pairs P points values ≡ true → (i : ℕ) → i < length points → Kept P points values i
  unfolding kept_pairs Fine
  pairs_each h i l = each_at i (g.below i l, new, g.usable i l) value
    where
      parts : (good P [] points ≡ true) × (same values (map (kept P) points) ≡ true)
      parts = (and-eq-true_iff (good P [] points) (same values (map (kept P) points))).0 h

      g : Good P [] points
      g = (good_true P [] points).0 parts.0

      new : among (get_or points i 0) (take i points) ≡ false
      new =
          (among_false (get_or points i 0) (take i points)).1 λ k b e.
          let here : k < i = omega (arith, length-take-le i points (omega arith)) in
          g.apart k i here l (sym (before_at i k l here) ∙ sym e)

      value : get_or values i 0 ≡ kept P (get_or points i 0)
      value = ap (λ (r : List ℕ). get_or r i 0) ((same_true values (map (kept P) points)).0 parts.1) ∙ get_or-map (kept P) points i 0 0 l

  each_pairs : length points ≡ length values → ((i : ℕ) → i < length points → Kept P points values i) → kept_pairs P points values ≡ true
  unfolding kept_pairs Fine among
  each_pairs long h = both_true (good P [] points) (same values (map (kept P) points)) ((good_true P [] points).1 g) ((same_true values (map (kept P) points)).1 equal)
    where
      facts : (i : ℕ) → i < length points → Fine i × (get_or values i 0 ≡ kept P (get_or points i 0))
      facts i l = at_each i (h i l)

      g : Good P [] points
      g = record {
        below = λ i l. (facts i l).0.0;
        new = λ i l. refl;
        usable = λ i l. (facts i l).0.2;
        apart = λ i k b l e.
            (among_false (get_or points k 0) (take k points)).0 (facts k l).0.1 i (omega (arith, length-take-le k points (omega arith)))
            (sym e ∙ sym (before_at k i l b));
      }

      equal : values ≡ map (kept P) points
      equal =
          ext_get_or 0 values (map (kept P) points) (sym long ∙ sym (length-map points (kept P)))
          λ i l.
          let b : i < length points = omega arith in
          (facts i b).1 ∙ sym (get_or-map (kept P) points i 0 0 b)

  -- the indices of the pairs
  indices : List ℕ
  indices = range_with_len 0 (length points)

  index : (i : ℕ) → i < length points → get_or indices i 0 ≡ i
  unfolding indices
  index i l = let none : 0 + i ≡ i = omega arith in get_or-range_with_len 0 (length points) i 0 l ∙ none

  -- the pairs tested one after the other, up to the first that would not have been kept
  pub pairs_tested : length points ≡ length values → (r : Bool)
      → MatchBool r (AllWithin (Kept P points values) (range_with_len 0 (length points)) 0 (length (range_with_len 0 (length points))))
      ((k : ℕ) × (k < length (range_with_len 0 (length points))) × HoldsAt (Lost P points values) (range_with_len 0 (length points)) k)
      → r ≡ kept_pairs P points values
  unfolding indices
  pairs_tested long true all =
      sym (each_pairs long (λ i l. subst (Kept P points values) (index i l) (all i 0 (omega arith) (omega (arith, length-range_with_len 0 (length points))))))
  pairs_tested long false (k, l, other) =
      let inside : k < length points = omega (arith, length-range_with_len 0 (length points)) in
      let lost : Lost P points values k = subst (Lost P points values) (index k inside) (other 0) in
      grind (arith, common_steps, λ (e : kept_pairs P points values ≡ true). pairs_each e k inside)

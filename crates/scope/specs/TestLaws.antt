-- What the tests of the numbers that calls answer say, as facts.
--
--   gives-zero, then-zero       the number 0 comes out exactly where no test before it holds
--   modulus_tests               in range and not composite: a modulus of the kernel
--   too_high_false               a degree is not above 16
--   misfit_false                a table has the length that its degrees ask
--   over_false                  every entry is below p
--   among_false                 a number is not in a list
--   point_number-zero            a point is below p, not among those kept, and usable
use Rattle.std.specs.Prelude.{ℕ, zero, suc, ◌≤◌, ◌<◌, Bool, true, false, not, ◌||◌, List, [], ◌∷◌, ◌≡◌, refl, ◌↔◌, ◌≢◌, leb, ltb, eqb, length, get_or}
use Rattle.std.proofs.Common.{arith, ap, ltb-false, leb-false, eqb-true, le-ltb, eq-eqb, ne_eqb}
use Rattle.std.proofs.lemmas.Bool.{eqb-false, not-false, lt-leb}
use Rattle.residue.specs.Prime.{Modulus, limit, prime?}
use Rattle.residue.specs.PrimeLaws.{prime?-right, prime?_all}
use Rattle.scope.specs.Pair.{Pair, size}
use Rattle.scope.specs.Point.{usable}
use Rattle.scope.specs.Number.{◌gives◌otherwise◌, ◌then◌, outside, composite, too_high, misfit, over, among, point_number}
use Rattle.scope.specs.Search.{or_false}

pub gives-zero : (t : Bool) (r s : ℕ) → 0 < r → ((t gives r otherwise s) ≡ 0) ↔ ((t ≡ false) × (s ≡ 0))
unfolding ◌gives◌otherwise◌
gives-zero true r s h = (λ e. absurd (omega arith), λ e. let z : ◌≡◌ {A = ℕ} 0 1 = cc in absurd (omega arith))
gives-zero false r s h = (λ e. (refl, e), λ e. e.1)

pub then-zero : (r s : ℕ) → ((r then s) ≡ 0) ↔ ((r ≡ 0) × (s ≡ 0))
unfolding ◌then◌
then-zero zero s = (λ e. (refl, e), λ e. e.1)
then-zero (suc r) s = (λ e. absurd (omega arith), λ e. absurd (omega arith))

pub both_false : (a b : Bool) → a ≡ false → b ≡ false → (a || b) ≡ false
both_false a b ea eb = rw (ea, eb) refl

pub modulus_tests : (p : ℕ) → ((outside p ≡ false) × (composite p ≡ false)) ↔ Modulus p
unfolding outside composite
modulus_tests p = (there, back)
  where
    there : (outside p ≡ false) × (composite p ≡ false) → Modulus p
    there h = record {
      least = ltb-false p 2 (or_false (ltb p 2) (leb limit p) h.0).0;
      below = leb-false limit p (or_false (ltb p 2) (leb limit p) h.0).1;
      prime = prime?-right p (not-false (prime? p) h.1);
    }

    back : Modulus p → (outside p ≡ false) × (composite p ≡ false)
    back h = (both_false (ltb p 2) (leb limit p) (le-ltb p 2 h.least) (lt-leb limit p h.below), ap not (prime?_all p h.prime))

pub too_high_false : (d : ℕ) → (too_high d ≡ false) ↔ (d ≤ 16)
unfolding too_high
too_high_false d = (ltb-false 16 d, le-ltb 16 d)

pub misfit_false : (m e : ℕ) (t : List ℕ) → (misfit m e t ≡ false) ↔ (length t ≡ size m e)
unfolding misfit
misfit_false m e t = (λ h. eqb-true (length t) (size m e) (not-false (eqb (length t) (size m e)) h), λ h. ap not (eq-eqb (length t) (size m e) h))

over_below : (p : ℕ) (t : List ℕ) → 0 < p → over p t ≡ false → (k : ℕ) → get_or t k 0 < p
unfolding over
over_below p [] pos h k = pos
over_below p (x ∷ t) pos h zero = leb-false p x (or_false (leb p x) (over p t) h).0
over_below p (x ∷ t) pos h (suc k) = over_below p t pos (or_false (leb p x) (over p t) h).1 k

below-over : (p : ℕ) (t : List ℕ) → ((k : ℕ) → get_or t k 0 < p) → over p t ≡ false
unfolding over
below-over p [] h = refl
below-over p (x ∷ t) h = both_false (leb p x) (over p t) (lt-leb p x (h zero)) (below-over p t (λ k. h (suc k)))

pub over_false : (p : ℕ) (t : List ℕ) → 0 < p → (over p t ≡ false) ↔ ((k : ℕ) → get_or t k 0 < p)
over_false p t pos = (over_below p t pos, below-over p t)

not-among : (a : ℕ) (s : List ℕ) → among a s ≡ false → (i : ℕ) → i < length s → a ≢ get_or s i 0
unfolding among
not-among a [] h i l = absurd (omega arith)
not-among a (x ∷ s) h zero l = eqb-false a x (or_false (eqb a x) (among a s) h).0
not-among a (x ∷ s) h (suc i) l = not-among a s (or_false (eqb a x) (among a s) h).1 i (omega arith)

apart-among : (a : ℕ) (s : List ℕ) → ((i : ℕ) → i < length s → a ≢ get_or s i 0) → among a s ≡ false
unfolding among
apart-among a [] h = refl
apart-among a (x ∷ s) h = both_false (eqb a x) (among a s) (ne_eqb a x (h zero (omega arith))) (apart-among a s (λ i l. h (suc i) (omega arith)))

pub among_false : (a : ℕ) (s : List ℕ) → (among a s ≡ false) ↔ ((i : ℕ) → i < length s → a ≢ get_or s i 0)
among_false a s = (not-among a s, apart-among a s)

pub point_number-zero : (P : Pair) (points : List ℕ) (a : ℕ)
    → (point_number P points a ≡ 0) ↔ ((a < P.p) × (among a points ≡ false) × (usable P a ≡ true))
unfolding point_number
point_number-zero P points a = (there, back)
  where
    there : point_number P points a ≡ 0 → (a < P.p) × (among a points ≡ false) × (usable P a ≡ true)
    there h =
        let (ten, r) = (gives-zero (leb P.p a) 10 _ (omega arith)).0 h in
        let (twelve, r') = (gives-zero (among a points) 12 _ (omega arith)).0 r in
        let (eleven, r'') = (gives-zero (not (usable P a)) 11 0 (omega arith)).0 r' in
        (leb-false P.p a ten, twelve, not-false (usable P a) eleven)

    back : (a < P.p) × (among a points ≡ false) × (usable P a ≡ true) → point_number P points a ≡ 0
    back (l, d, u) =
        (gives-zero (leb P.p a) 10 _ (omega arith)).1
        (lt-leb P.p a l, (gives-zero (among a points) 12 _ (omega arith)).1 (d, (gives-zero (not (usable P a)) 11 0 (omega arith)).1 (ap not u, refl)))

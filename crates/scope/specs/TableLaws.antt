-- Laws of the coefficients of a table.
--
--   term_inside       the coefficient of x^i y^j stands in its place where j is within the degree in y
--   term_high         above that degree there is none
--   term-bound        so a coefficient that is not 0 is within it
--   term-below        the coefficients are below p where the entries are
--   term_out          a table has no coefficient of a power of x above its degree
--   no_lead-same       a leading row that is not zero, in another table with the same coefficients there
use Rattle.std.specs.Prelude.{ℕ, ◌+◌, ◌≤◌, ◌<◌, true, false, not, List, ◌≡◌, ◌≢◌, eqb, length, get_or}
use Rattle.std.proofs.Math.Nat.{mul-le-mul_right}
use Rattle.std.proofs.Common.{arith, ap, ◌∙◌, le-leb, ne_eqb}
use Rattle.std.proofs.Math.Decide.{dec_le}
use Rattle.std.proofs.Math.Path.{refl}
use Rattle.std.proofs.Math.ListN.{get_or-eq_default}
use Rattle.std.proofs.lemmas.Bool.{eqb-false, not-true, not-false, lt-leb}
use Rattle.scope.specs.Pair.{place, size, term, some}
use Rattle.scope.specs.Number.{no_lead}
use Rattle.scope.specs.Search.{some_true, one-some}

module _ (e : ℕ) (t : List ℕ) (i j : ℕ) where
  pub term_inside : j ≤ e → term e t i j ≡ get_or t (place e i j) 0
  unfolding term
  term_inside h = rw (le-leb j e h) refl

  pub term_high : e < j → term e t i j ≡ 0
  unfolding term
  term_high h = rw (lt-leb j e h) refl

  pub term-bound : term e t i j ≢ 0 → j ≤ e
  term-bound h = elim (dec_le j e) [ yes l ↦ l | no l ↦ absurd (h (term_high (omega arith))) ]

  pub term-below : (p : ℕ) → 0 < p → ((k : ℕ) → get_or t k 0 < p) → term e t i j < p
  term-below p pos h =
      elim (dec_le j e) [ yes l ↦ rw (term_inside l) (h (place e i j)) | no l ↦ rw (term_high (omega arith)) pos ]

  pub term_out : (m : ℕ) → length t ≡ size m e → m < i → term e t i j ≡ 0
  unfolding place size
  term_out m len h =
      elim (dec_le j e) [
        | yes l ↦ term_inside l ∙ get_or-eq_default t 0 (omega (arith, mul-le-mul_right {m = m + 1} {n = i} (e + 1) (omega arith)))
        | no l ↦ term_high (omega arith)
      ]

pub no_lead-same : (m d e : ℕ) (s t : List ℕ) → ((j : ℕ) → term d s m j ≡ term e t m j) → no_lead m d s ≡ false → no_lead m e t ≡ false
unfolding no_lead
no_lead-same m d e s t same h = found (some_true (d + 1) (λ j. not (eqb (term d s m j) 0)) (not-false (some (d + 1) (λ j. not (eqb (term d s m j) 0))) h))
  where
    found : (j : ℕ) × (j < d + 1) × (not (eqb (term d s m j) 0) ≡ true) → no_lead m e t ≡ false
    found (j, l, q) =
        let here : term e t m j ≢ 0 = λ z. eqb-false (term d s m j) 0 (not-true (eqb (term d s m j) 0) q) (same j ∙ z) in
        let k : j ≤ e = term-bound e t m j here in
        ap not (one-some (e + 1) (λ j. not (eqb (term e t m j) 0)) j (omega arith) (ap not (ne_eqb (term e t m j) 0 here)))

-- One division of the monic remainder sequence, as the code does it.
--
--   order-length        of neighbours the second is no longer than the first
--   monic_divides       the monic row is ended, of residues, and as long as the row
--   next-length         the first places of the work row are trimmed to the length of the next row
--   next_fits, next-front    which is the front of the work row
--   next_more           it goes on with the sequence where it is not empty
use Prim.Native.Nat.{ℕ, ◌-◌, ◌<◌, ◌≤◌}
use native.Mathlib.Omega.{arith}
use mathlib.Core.List.{List, [], ◌++◌}
use mathlib.Core.Logic.{◌⊎◌, inl, inr}
use mathlib.Core.Path.{◌≡◌, sym, ap, subst, ◌∙◌}
use lib.ListN.{length, take, length-append}
use lib.Seq.{take_at, take-append-le}
use Rattle.euclid.specs.Row.{trim, declared}
use Rattle.euclid.specs.RowLaws.{Below, Ended, trim-length}
use Rattle.euclid.specs.Division.{remainder, quotient}
use Rattle.euclid.specs.DivisionLaws.{remainder-length}
use Rattle.euclid.specs.Sequence.{monic}
use Rattle.euclid.specs.MonicLaws.{monic-length, monic-declared, monic-below, monic-ended}
use Rattle.euclid.specs.FollowingLaws.{Neighbours, next, next_neighbours}
use Rattle.field.specs.declared.Modulus.{Modulus}
use Rattle.rows.proofs.Bounds.{declared-minus}
use Rattle.rows.proofs.Trim.{trim-front}

pub order-length : {p : ℕ} (a b : List ℕ) → Neighbours p a b → length b ≤ length a
order-length a b n = omega (arith, n.order, n.first_ended.0, declared-minus a, declared-minus b)

pub record Divisor (p : ℕ) (b d : List ℕ) : Type 0 where
  pub ended : Ended d
  pub below : Below p d
  pub long : length d ≡ length b

module _ (p : Modulus) (a b : List ℕ) (n : Neighbours p.value a b) {d : List ℕ} (e : d ≡ monic p.value b) where
  pub monic_divides : Divisor p.value b d
  monic_divides =
      subst (λ (l : List ℕ). Divisor p.value b l) (sym e)
      (record {
        ended = monic-ended p.value p.least p.prime b n.second_ended n.second_below;
        below = monic-below p.value b (omega (arith, p.least));
        long = monic-length p.value b;
      })

module _ (p : ℕ) (a b : List ℕ) (n : Neighbours p a b) {row : List ℕ} (is : row ≡ remainder p a (monic p b) ++ quotient p a (monic p b)) where
  r : List ℕ
  r = remainder p a (monic p b)

  rest-length : length r ≡ length b - 1
  unfolding r
  rest-length =
      remainder-length p a (monic p b)
      ∙ omega (arith, monic-declared p b, declared-minus b, order-length a b n)

  module _ {k : ℕ} (cut : k ≡ length (trim (take (length b - 1) row))) where
    pub next-length : k ≡ length (next p a b)
    unfolding r
    next-length = cut ∙ ap (λ (l : List ℕ). length (trim l)) (ap (take (length b - 1)) is ∙ take_at r (quotient p a (monic p b)) (length b - 1) rest-length)

    pub next_fits : k ≤ length row
    unfolding r
    next_fits = omega (arith, next-length, trim-length r, ap length is, length-append r (quotient p a (monic p b)))

    pub next-front : take k row ≡ next p a b
    unfolding r
    next-front =
        ap (take k) is ∙ take-append-le k r (quotient p a (monic p b)) (omega (arith, next-length, trim-length r)) ∙ trim-front r next-length

pub next_more : (p : Modulus) (a b : List ℕ) → Neighbours p.value a b → 0 < length (next p.value a b)
    → Neighbours p.value (monic p.value b) (next p.value a b) × (length (next p.value a b) < length b)
next_more p a b n some = by_next (next_neighbours p.value p.least p.prime a b n)
  where
    by_next : (next p.value a b ≡ []) ⊎ (Neighbours p.value (monic p.value b) (next p.value a b) × (declared (next p.value a b) < declared b))
        → Neighbours p.value (monic p.value b) (next p.value a b) × (length (next p.value a b) < length b)
    by_next (inl e) = absurd (omega (arith, ap length e))
    by_next (inr h) = (h.0, omega (arith, h.1, declared-minus (next p.value a b), declared-minus b))

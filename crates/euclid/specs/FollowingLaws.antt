-- The rows of a monic remainder sequence, one division at a time.
--
--   Neighbours p a b      what the sequence asks of a row and the next: ended rows of residues, b no longer than a
--   shorter_neighbours, longer_neighbours   two rows, by the test on their degrees
--   next p a b            the row after a and b: the remainder of a by b made monic, trimmed
--   next_neighbours       it is empty, or of lower degree than b and the neighbour of b made monic
--   following_none        nothing follows an empty row
--   following-some        a row that is not empty comes first
--   following_induction   what holds of the last division, and of a division where it holds of the next, holds of the sequence
use Prim.Native.Nat.{ℕ, zero, suc, ◌<◌, ◌≤◌}
use Rattle.std.proofs.Common.{arith, sym, subst, inl, inr, ltb-true, ltb-false}
use Rattle.std.specs.Prelude.{true, false, ◌≡◌, refl, ◌⊎◌, length, ltb}
use mathlib.Core.List.{List, [], ◌∷◌}
use Rattle.residue.specs.Prime.{Prime}
use Rattle.euclid.specs.Row.{trim, declared, degree}
use Rattle.euclid.specs.RowLaws.{Below, Ended, declared-length, ended-degree, trim-ended, trim-length, trim-below}
use Rattle.euclid.specs.Division.{remainder}
use Rattle.euclid.specs.DivisionLaws.{remainder-below, remainder-length}
use Rattle.euclid.specs.Sequence.{monic, following}
use Rattle.euclid.specs.MonicLaws.{monic-declared, monic-below, monic-ended}

pub record Neighbours (p : ℕ) (a b : List ℕ) : Type 0 where
  pub first_ended : Ended a
  pub first_below : Below p a
  pub second_ended : Ended b
  pub second_below : Below p b
  pub order : declared b ≤ declared a

-- by the test on the degrees of two rows
pub shorter_neighbours : (p : ℕ) (a b : List ℕ) → Ended a → Below p a → Ended b → Below p b → ltb (degree a) (degree b) ≡ true → Neighbours p b a
shorter_neighbours p a b ea ba eb bb e =
    record {
      first_ended = eb;
      first_below = bb;
      second_ended = ea;
      second_below = ba;
      order = omega (arith, ltb-true (degree a) (degree b) e, ended-degree a ea, ended-degree b eb);
    }

pub longer_neighbours : (p : ℕ) (a b : List ℕ) → Ended a → Below p a → Ended b → Below p b → ltb (degree a) (degree b) ≡ false → Neighbours p a b
longer_neighbours p a b ea ba eb bb e =
    record {
      first_ended = ea;
      first_below = ba;
      second_ended = eb;
      second_below = bb;
      order = omega (arith, ltb-false (degree a) (degree b) e, ended-degree a ea, ended-degree b eb);
    }

abbrev pub next : ℕ → List ℕ → List ℕ → List ℕ
next p a b = trim (remainder p a (monic p b))

pub following_none : (p k : ℕ) (a : List ℕ) → following p k a [] ≡ []
unfolding following
following_none p zero a = refl
following_none p (suc k) a = refl

pub following-some : (p k : ℕ) (a b : List ℕ) → 0 < length b → length b ≤ k → (rs : List (List ℕ)) × (following p k a b ≡ b ∷ rs)
unfolding following
following-some p zero a b some fuel = absurd (omega arith)
following-some p (suc k) a [] some fuel = absurd (omega arith)
following-some p (suc k) a (x ∷ b) some fuel = (_, refl)

module _ (p : ℕ) (two : 2 ≤ p) (prime : Prime p) where
  pub next_neighbours : (a b : List ℕ) → Neighbours p a b → (next p a b ≡ []) ⊎ (Neighbours p (monic p b) (next p a b) × (declared (next p a b) < declared b))
  next_neighbours a b n = by_end (trim-ended r)
    where
      r : List ℕ
      r = remainder p a (monic p b)

      by_end : (trim r ≡ []) ⊎ Ended (trim r) → (trim r ≡ []) ⊎ (Neighbours p (monic p b) (trim r) × (declared (trim r) < declared b))
      by_end (inl e) = inl e
      by_end (inr h) =
          inr (
            record {
              first_ended = monic-ended p two prime b n.second_ended n.second_below;
              first_below = monic-below p b (omega arith);
              second_ended = h;
              second_below = trim-below p r (remainder-below p a (monic p b) (omega arith) n.first_below);
              order = omega (arith, less, monic-declared p b);
            },
            less,
          )
        where
          less : declared (trim r) < declared b
          less = omega (arith, declared-length (trim r) h.0, trim-length r, remainder-length p a (monic p b), monic-declared p b)

  module _ (P : List ℕ → List ℕ → List (List ℕ) → Type 0)
      (last : (a b : List ℕ) → Neighbours p a b → next p a b ≡ [] → P a b (b ∷ []))
      (more : (a b : List ℕ) (rs : List (List ℕ)) → Neighbours p a b → Neighbours p (monic p b) (next p a b) → declared (next p a b) < declared b
      → P (monic p b) (next p a b) (next p a b ∷ rs) → P a b (b ∷ next p a b ∷ rs)) where
    one-division : (k : ℕ) (a b : List ℕ) → Neighbours p a b → length b ≤ suc k
        → (Neighbours p (monic p b) (next p a b) → length (next p a b) ≤ k → P (monic p b) (next p a b) (following p k (monic p b) (next p a b)))
        → P a b (b ∷ following p k (monic p b) (next p a b))
    one-division k a b n fuel later = by_next (next_neighbours a b n)
      where
        d : List ℕ
        d = monic p b

        t : List ℕ
        t = next p a b

        by_next : (t ≡ []) ⊎ (Neighbours p d t × (declared t < declared b)) → P a b (b ∷ following p k d t)
        by_next (inl e) =
            subst (λ (l : List ℕ). P a b (b ∷ following p k d l)) (sym e)
            (subst (λ (l : List (List ℕ)). P a b (b ∷ l)) (sym (following_none p k d)) (last a b n e))
        by_next (inr h) =
            subst (λ (l : List (List ℕ)). P a b (b ∷ l)) (sym rest.1)
            (more a b rest.0 n h.0 h.1 (subst (λ (l : List (List ℕ)). P d t l) rest.1 (later h.0 short)))
          where
            short : length t ≤ k
            short = omega (arith, declared-length t h.0.second_ended.0, declared-length b n.second_ended.0)

            rest : (rs : List (List ℕ)) × (following p k d t ≡ t ∷ rs)
            rest = following-some p k d t h.0.second_ended.0 short

    pub following_induction : (k : ℕ) (a b : List ℕ) → Neighbours p a b → length b ≤ k → P a b (following p k a b)
    unfolding following
    following_induction zero a b n fuel = absurd (omega (arith, n.second_ended.0))
    following_induction (suc k) a [] n fuel = absurd (omega (arith, n.second_ended.0))
    following_induction (suc k) a (x ∷ b) n fuel =
        one-division k a (x ∷ b) n fuel (following_induction k (monic p (x ∷ b)) (next p a (x ∷ b)))

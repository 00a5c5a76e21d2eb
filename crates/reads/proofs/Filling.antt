-- A fresh job filled by the points 0, 1, 2, .. in turn, until it has as many as it needs.
--
--   Filling j a k       k is j offered the usable points below a, which are not more than those needed
--   upto j a            j offered the usable points below a
--   upto-count          of a fresh j it keeps all of them, up to those needed
--   upto_next           one number more is one offer more
--   filling_first       before the first turn
--   filling-count       and keeps exactly those points
--   filling_few         which are not more than those needed
--   filling-below       while points are wanted a is a point
--   filling_full        so where no point is left none is wanted
--   filling-next        one turn
--   filling-last        the job is complete: it was offered the smallest points that suffice
use Prim.Native.Nat.{ℕ, suc, ◌+◌, ◌<◌, ◌≤◌, min}
use native.Mathlib.Decide.{dec_le}
use native.Mathlib.Numerals.{add-one}
use native.Mathlib.Omega.{arith}
use mathlib.Core.Bool.{Bool, true, false, and-false}
use mathlib.Core.List.{List, [], ◌∷◌}
use mathlib.Core.Logic.{inl}
use mathlib.Core.Path.{◌≡◌, refl, sym, ap, ◌∙◌}
use lib.Dec.{ltb}
use lib.ListN.{length, take, length-append}
use borrow.Author.Tests.{leb-true}
use Rattle.scope.specs.Pair.{Pair}
use Rattle.scope.specs.Point.{usable, usables, enough, needed, smallest}
use Rattle.scope.specs.Number.{among}
use Rattle.points.specs.Usables.{usables-skip, usables-take, smallest_is}
use Rattle.job.specs.declared.Job.{Job}
use Rattle.job.specs.Job.{pair_of, kept_points}
use Rattle.job.specs.Calls.{offered, lotted}
use Rattle.job.specs.Demand.{counts, counting, distinct}
use Rattle.job.specs.Standing.{Standing}
use Rattle.job.specs.StandingLaws.{lotted_pair, lotted-append}
use Rattle.job.specs.DemandLaws.{idle_uncounted, lotted-count}
use Rattle.job.specs.OneShot.{usables_rising, counting_rising}

upto : Job → ℕ → Job
upto j a = lotted j (usables (pair_of j) a)

upto_next : (j : Job) (a : ℕ) → upto j (suc a) ≡ offered (upto j a) a
unfolding upto counts
upto_next j a = go (usable (pair_of j) a) refl
  where
    go : (t : Bool) → usable (pair_of j) a ≡ t → upto j (suc a) ≡ offered (upto j a) a
    go true u =
        ap (lotted j) (usables-take (pair_of j) a u) ∙ lotted-append j (usables (pair_of j) a) (a ∷ []) ∙ unfold lotted in refl
    go false u =
        ap (lotted j) (usables-skip (pair_of j) a u)
        ∙ sym (idle_uncounted (upto j a) a (rw (ap (λ (P : Pair). usable P a) (lotted_pair j (usables (pair_of j) a)) ∙ u) (and-false (ltb a (pair_of (upto j a)).p))))

-- one number more is at most one usable point more
usables_step : (P : Pair) (a : ℕ) → length (usables P (suc a)) ≤ length (usables P a) + 1
usables_step P a = go (usable P a) refl
  where
    go : (t : Bool) → usable P a ≡ t → length (usables P (suc a)) ≤ length (usables P a) + 1
    go true u = omega (arith, ap length (usables-take P a u) ∙ length-append (usables P a) (a ∷ []))
    go false u = omega (arith, ap length (usables-skip P a u))

pub record Filling (j : Job) (a : ℕ) (k : Job) : Type 0 where
  pub within : a ≤ j.p
  pub same : k ≡ lotted j (usables (pair_of j) a)
  pub few : length (usables (pair_of j) a) ≤ needed (pair_of j)

module _ (j : Job) (s : Standing j) (fresh : j.count ≡ 0) where
  upto-count : (a : ℕ) → a ≤ (pair_of j).p → (upto j a).count ≡ min (needed (pair_of j)) (length (usables (pair_of j) a))
  unfolding upto kept_points
  upto-count a l =
      lotted-count (usables (pair_of j) a) j s [] (inl (λ x. ap (λ (n : ℕ). among x (take n j.points)) (sym fresh)))
      ∙ ap (λ (c : ℕ). min (needed (pair_of j)) (c + length (distinct [] (counting (pair_of j) (usables (pair_of j) a))))) fresh
      ∙ ap (λ (xs : List ℕ). min (needed (pair_of j)) (0 + length xs)) (counting_rising (pair_of j) (usables (pair_of j) a) a (usables_rising (pair_of j) a) l)
      ∙ omega arith

  pub filling_first : Filling j 0 j
  unfolding usables lotted
  filling_first = record { within = omega arith; same = refl; few = omega arith }

  module _ (a : ℕ) (k : Job) (h : Filling j a k) where
    filling-count : k.count ≡ length (usables (pair_of j) a)
    unfolding upto pair_of
    filling-count = ap (λ (z : Job). z.count) h.same ∙ upto-count a h.within ∙ omega (arith, h.few)

    pub filling_few : k.count ≤ needed (pair_of j)
    filling_few = omega (arith, filling-count, h.few)

    pub filling-below : k.count < needed (pair_of j) → a < j.p
    unfolding enough pair_of
    filling-below wanted = elim (dec_le j.p a) [ yes l ↦ absurd (full (omega (arith, h.within))) | no l ↦ omega arith ]
      where
        full : a ≡ j.p → ⊥
        full e =
            omega (
              arith,
              filling-count,
              ap (λ (b : ℕ). length (usables (pair_of j) b)) e,
              leb-true (needed (pair_of j)) (length (usables (pair_of j) j.p)) s.plenty,
            )

    pub filling_full : j.p ≤ a → needed (pair_of j) ≤ k.count
    filling_full all = elim (dec_le (needed (pair_of j)) k.count) [ yes l ↦ l | no l ↦ absurd (omega (arith, filling-below (omega arith))) ]

    pub filling-next : k.count < needed (pair_of j) → (l : Job) → l ≡ offered k a → Filling j (a + 1) l
    filling-next wanted l e =
        rw add-one
        record {
          within = filling-below wanted;
          same = e ∙ ap (λ (z : Job). offered z a) h.same ∙ unfold upto in sym (upto_next j a);
          few = omega (arith, filling-count, usables_step (pair_of j) a);
        }

    pub filling-last : needed (pair_of j) ≤ k.count → k ≡ lotted j (smallest (pair_of j))
    unfolding pair_of
    filling-last full =
        h.same ∙ ap (lotted j) (sym (smallest_is (pair_of j) a h.within (omega (arith, filling-count, h.few))))

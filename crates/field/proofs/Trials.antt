-- Trial division by odd numbers.
--
--   Tried p d       d is odd, and no number from 2 to d - 1 whose square is at most p divides p
--   tried_first     after the trial of 2 comes 3
--   tried-next      after the trial of d comes d + 2: a divisor d + 1 would make p even
--   tried_all       p is prime once d * d passes it
--   tried-room      while d * d has not passed p, there is room below p for 3d
--   divided         with a divisor found, the answer false is right
use Prim.Native.Nat.{ℕ, ◌+◌, ◌*◌, ◌%◌, ◌≤◌, ◌<◌}
use native.Mathlib.Nat.{le_refl, le_trans, mul-le-mul, mul-le-mul_right, mod-eq-zero_of_dvd, dvd_of_mod-eq-zero, dvd_trans}
use native.Mathlib.Decide.{dec_lt, ℕ_discrete}
use native.Mathlib.Omega.{arith}
use mathlib.Core.Bool.{true, false, false≢true}
use mathlib.Core.Logic.{◌↔◌}
use mathlib.Core.Path.{◌≡◌, sym, ap, ◌∙◌}
use Rattle.residue.specs.Prime.{Prime}

pub record Tried (p d : ℕ) : Type 0 where
  pub least : 3 ≤ d
  pub odd : d % 2 ≡ 1
  pub none : (e : ℕ) → 2 ≤ e → e < d → e * e ≤ p → p % e ≡ 0 → ⊥

pub tried_first : {p : ℕ} → (4 ≤ p → p % 2 ≡ 0 → ⊥) → Tried p 3
tried_first {p} h = record { least = omega arith; odd = omega arith; none = only_two }
  where
    only_two : (e : ℕ) → 2 ≤ e → e < 3 → e * e ≤ p → p % e ≡ 0 → ⊥
    only_two e two less small divides =
        let same : e ≡ 2 = omega arith in
        h (omega (arith, ap (λ (t : ℕ). t * t) same)) (ap (λ (t : ℕ). p % t) (sym same) ∙ divides)

pub tried-next : {p d : ℕ} → Tried p d → (p % d ≡ 0 → ⊥) → Tried p (d + 2)
tried-next {p} {d} t fails = record { least = omega arith; odd = omega arith; none = up }
  where
    up : (e : ℕ) → 2 ≤ e → e < d + 2 → e * e ≤ p → p % e ≡ 0 → ⊥
    up e two less small divides = by_place (dec_lt e d) (ℕ_discrete e d)
      where
        by_place : Dec (e < d) → Dec (e ≡ d) → ⊥
        by_place (yes before) here = t.none e two before small divides
        by_place (no _) (yes here) = fails (ap (λ (n : ℕ). p % n) (sym here) ∙ divides)
        by_place (no past) (no other) =
            t.none 2 (le_refl 2) (omega arith) (omega (arith, mul-le-mul two two))
            (mod-eq-zero_of_dvd 2 (dvd_trans 2 (dvd_of_mod-eq-zero 2 (omega arith)) (dvd_of_mod-eq-zero e divides)))

pub tried_all : {p d : ℕ} → Tried p d → p < d * d → Prime p
unfolding Prime
tried_all {p} {d} t past e two small divides = by-size (dec_lt e d)
  where
    by-size : Dec (e < d) → ⊥
    by-size (yes less) = t.none e two less small divides
    by-size (no more) = let over : d ≤ e = omega arith in omega (arith, mul-le-mul over over)

pub tried-room : {p d : ℕ} → Tried p d → d * d ≤ p → 3 * d ≤ p
tried-room {p} {d} t small = le_trans (mul-le-mul_right d t.least) small

pub divided : {p : ℕ} (d : ℕ) → 2 ≤ d → d * d ≤ p → p % d ≡ 0 → (false ≡ true) ↔ Prime p
unfolding Prime
divided d two small divides = (λ e. absurd (false≢true e), λ prime. absurd (prime d two small divides))

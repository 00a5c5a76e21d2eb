-- Laws of primes: what the few divisors tried say of all, and that the test says true of primes and of no other number.
--
--   Prime-prop          there is one proof of `Prime p` at most
--   prime_no_divisor    no d between 2 and p divides a prime p, however large d is
--   prime?-right        prime? says true of primes only
--   prime?_all          prime? says true of every prime
use Rattle.std.specs.Prelude.{ℕ, zero, suc, ◌+◌, ◌*◌, ◌%◌, ◌/◌, ◌≤◌, ◌<◌, ◌≡◌, refl, Bool, true, false, ◌⊎◌}
use Rattle.std.specs.Coded.{Π_prop, →_prop}
use Rattle.std.proofs.Math.Nat.{div-add-mod, mul-mod_left, lt_of_mul-lt-mul_left}
use Rattle.std.proofs.Common.{mul-le-mul, mul-le-mul_right, le-mul_of_pos_right, le_refl, le_trans, eq-or-lt_of_le, arith, sym, ap, ◌∙◌, inl, inr}
use Rattle.std.proofs.Math.Decide.{dec_le, ℕ_discrete}
use Rattle.std.proofs.lemmas.Bool.{false≢true}
use Rattle.residue.specs.Prime.{Prime, trial, trials, prime?}

pub Prime-prop : (p : ℕ) → IsProp (Prime p)
unfolding Prime
Prime-prop p = Π_prop (λ d. →_prop (→_prop (→_prop (λ x y. absurd x))))

-- a divisor d with d*d > p has a cofactor q with q*q <= p
pub prime_no_divisor : {d p : ℕ} → 2 ≤ d → d < p → Prime p → p % d ≡ 0 → ⊥
unfolding Prime
prime_no_divisor {d} {p} two less prime divides = by-size (dec_le (d * d) p)
  where
    q : ℕ
    q = p / d

    whole : d * q ≡ p
    whole = omega (arith, div-add-mod p d)

    by-size : Dec (d * d ≤ p) → ⊥
    by-size (yes small) = prime d two small divides
    by-size (no large) = prime q two_q (omega (arith, whole, mul-le-mul_right q below)) (ap (λ (n : ℕ). n % q) (sym whole) ∙ mul-mod_left d q)
      where
        below : q < d
        below = lt_of_mul-lt-mul_left d (omega (arith, whole))

        two_q : 2 ≤ q
        two_q = lt_of_mul-lt-mul_left d {m = 1} {n = q} (omega (arith, whole))

trial-right : {A B : Type 0} (a : Dec A) (b : Dec B) (r : Bool) → trial a b r ≡ true → A → (B → ⊥) × (r ≡ true)
unfolding trial
trial-right (no f) b r e x = absurd (f x)
trial-right (yes _) (yes _) r e x = absurd (false≢true e)
trial-right (yes _) (no f) r e x = (f, e)

trial_all : {A B : Type 0} (a : Dec A) (b : Dec B) (r : Bool) → (A → (B → ⊥) × (r ≡ true)) → trial a b r ≡ true
unfolding trial
trial_all (no _) b r h = refl
trial_all (yes x) (yes y) r h = absurd ((h x).0 y)
trial_all (yes x) (no _) r h = (h x).1

trials-right : (k d p e : ℕ) → 2 ≤ d → p < k + d → trials k d p ≡ true → d ≤ e → e * e ≤ p → p % e ≡ 0 → ⊥
unfolding trials
trials-right zero d p e two far all from small divides = omega (arith, le-mul_of_pos_right {m = e} e (omega arith))
trials-right (suc k) d p e two far all from small divides = by_place (eq-or-lt_of_le from) (λ later. trials-right k (suc d) p e (omega arith) (omega arith) here.1 later small divides)
  where
    here : (p % d ≡ 0 → ⊥) × (trials k (suc d) p ≡ true)
    here = trial-right (dec_le (d * d) p) (ℕ_discrete (p % d) 0) (trials k (suc d) p) all (le_trans (mul-le-mul from from) small)

    by_place : (d ≡ e) ⊎ (d < e) → (d < e → ⊥) → ⊥
    by_place (inl same) rest = here.0 (ap (λ (n : ℕ). p % n) same ∙ divides)
    by_place (inr later) rest = rest later

pub prime?-right : (p : ℕ) → prime? p ≡ true → Prime p
unfolding prime? Prime
prime?-right p all d two small divides = trials-right p 2 p d (le_refl 2) (omega arith) all two small divides

trials_all : (k d p : ℕ) → 2 ≤ d → Prime p → trials k d p ≡ true
unfolding trials Prime
trials_all zero d p two prime = refl
trials_all (suc k) d p two prime =
    trial_all (dec_le (d * d) p) (ℕ_discrete (p % d) 0) (trials k (suc d) p) (λ small. (prime d two small, trials_all k (suc d) p (omega arith) prime))

pub prime?_all : (p : ℕ) → Prime p → prime? p ≡ true
unfolding prime?
prime?_all p = trials_all p 2 p (le_refl 2)

-- the test on numbers: 0 and 1 pass too
prime?_examples : (prime? 0 ≡ true) × (prime? 1 ≡ true) × (prime? 2 ≡ true) × (prime? 4 ≡ false) × (prime? 9 ≡ false) × (prime? 65537 ≡ true)
unfolding prime?
prime?_examples = (refl, refl, refl, refl, refl, refl)

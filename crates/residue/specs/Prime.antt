-- Primes and the modulus of the kernel.
--
--   limit               2^31, the bound that every modulus stays below
--   Prime p             no d with 2 <= d and d*d <= p divides p (0 and 1 have this too: the range is asked apart)
--   Modulus p           what the kernel asks of a modulus: in range, and prime
--   trial a b r         one trial of `prime?`: a says whether the divisor is small enough to matter, b whether it divides, and
--                       r is what the later trials gave
--   trials k d p        none of d, d+1, .., d+k-1 whose square is at most p divides p
--   prime? p            the test of all those d, as a function that computes
use Rattle.std.specs.Prelude.{ℕ, zero, suc, ◌*◌, ◌%◌, ◌^◌, ◌≤◌, ◌<◌, ◌≡◌, Bool, true, false}
use Rattle.std.proofs.Math.Decide.{dec_le, ℕ_discrete}

abbrev pub limit : ℕ
limit = 2 ^ 31

unfoldable pub Prime : ℕ → Type 0
Prime p = (d : ℕ) → 2 ≤ d → d * d ≤ p → p % d ≡ 0 → ⊥

pub record Modulus (p : ℕ) : Type 0 where
  pub least : 2 ≤ p
  pub below : p < limit
  pub prime : Prime p

unfoldable pub trial : {A B : Type 0} → Dec A → Dec B → Bool → Bool
trial (no _) b r = true
trial (yes _) (yes _) r = false
trial (yes _) (no _) r = r

unfoldable pub trials : ℕ → ℕ → ℕ → Bool
trials zero d p = true
trials (suc k) d p = let r = trials k (suc d) p in trial (dec_le (d * d) p) (ℕ_discrete (p % d) 0) r

unfoldable pub prime? : ℕ → Bool
unfolding trials trial dec_le ℕ_discrete
prime? p = trials p 2 p

-- The numbers modulo p, for every p (modulo 0 there is one number, so that nothing has to be asked of p where a residue is
-- only named).
--
--   modulus p       p itself, and 1 for p = 0
--   modulus-some    so there is a number below it
--   Residue p       the numbers below modulus p
--   cut p n         the remainder of n, as such a number
use Rattle.std.specs.Prelude.{ℕ, zero, suc, ◌%◌, ◌<◌}
use Rattle.std.proofs.Common.{mod-lt, zero-lt-suc}

unfoldable pub modulus : ℕ → ℕ
modulus zero = 1
modulus (suc q) = suc q

pub modulus-some : (p : ℕ) → 0 < modulus p
unfolding modulus
modulus-some zero = zero-lt-suc 0
modulus-some (suc q) = zero-lt-suc q

abbrev pub Residue : ℕ → Type 0
Residue p = (n : ℕ) × (n < modulus p)

unfoldable pub cut : (p : ℕ) → ℕ → Residue p
cut p n = (n % modulus p, mod-lt n (modulus-some p))

-- Inverses modulo p.
--
--   choose t y r        the candidate y where it is one, or what the later candidates gave
--   among k y p a       the least among y, y+1, .., y+k-1 that inverts a modulo p, or 0
--   inverse p a         the least y < p with a*y = 1 modulo p, and 0 if there is none
--   inv p x             the same for residues
use Rattle.std.specs.Prelude.{ℕ, zero, suc, ◌*◌, ◌%◌}
use Rattle.std.proofs.Math.Decide.{ℕ_discrete}
use Rattle.residue.specs.Residue.{residues, val, res}

unfoldable pub choose : {A : Type 0} → Dec A → ℕ → ℕ → ℕ
choose (yes _) y r = y
choose (no _) y r = r

unfoldable pub among : ℕ → ℕ → ℕ → ℕ → ℕ
among zero y p a = 0
among (suc k) y p a = let r = among k (suc y) p a in choose (ℕ_discrete ((a * y) % p) 1) y r

unfoldable pub inverse : ℕ → ℕ → ℕ
unfolding among choose ℕ_discrete
inverse p a = among p 0 p a

module _ (p : ℕ) where
  open residues p use {C}

  unfoldable pub inv : C → C
  inv x = res p (inverse p (val p x))

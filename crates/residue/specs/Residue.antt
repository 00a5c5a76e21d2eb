-- The numbers modulo p as a commutative ring: sums, products and negatives by remainder.
--
--   residues p      the ring of them; its laws are those of `ResidueRing`
--   val p x         the number that the residue x is
--   res p n         the residue of the number n
use Rattle.std.specs.Prelude.{ℕ, ◌+◌, ◌*◌, ◌-◌}
use Rattle.ring.specs.Ring.{Ring}
use Rattle.residue.specs.Cut.{modulus, Residue, cut}
use Rattle.residue.specs.ResidueRing.{plus_assoc, plus_comm, plus-zero, plus-neg, times_assoc, times_comm, times-one, times_dist}

unfoldable pub residues : ℕ → Ring
unfolding cut modulus
residues p =
    record {
      C = Residue p;
      ◌⊕◌ = λ x y. cut p (x.0 + y.0);
      ◌⊗◌ = λ x y. cut p (x.0 * y.0);
      ⊖◌ = λ x. cut p (modulus p - x.0);
      𝟘 = cut p 0;
      𝟙 = cut p 1;
      ⊕_assoc = plus_assoc p;
      ⊕_comm = plus_comm p;
      ⊕-zero = plus-zero p;
      ⊕-neg = plus-neg p;
      ⊗_assoc = times_assoc p;
      ⊗_comm = times_comm p;
      ⊗-one = times-one p;
      ⊗_dist = times_dist p;
    }

unfoldable pub val : (p : ℕ) → Ring.C (residues p) → ℕ
unfolding residues
val p x = x.0

unfoldable pub res : (p : ℕ) → ℕ → Ring.C (residues p)
unfolding residues
res p n = cut p n

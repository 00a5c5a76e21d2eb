-- Sums, products and negatives of the numbers modulo p are taken by remainder, and so they obey the laws of a ring.
--
--   number_path     two residues are one where their numbers are
--   both            two remainders are one residue where they are one number
--   plus_..         the laws of sums and negatives
--   times_..        the laws of products
use Rattle.std.specs.Prelude.{ℕ, suc, ◌+◌, ◌*◌, ◌-◌, ◌%◌, ◌≡◌}
use Rattle.std.proofs.Math.Bridge.{le_prop}
use Rattle.std.proofs.Common.{add_assoc, add_comm, add-zero, add-sub_of_le, mul_assoc, mul_comm, mul-one, mul-add, mod-eq_of_lt, le_of_lt, ◌∙◌}
use Rattle.std.proofs.Math.Nat.{mod_self, mod-add-mod, add-mod-mod, zero-mod}
use mathlib.Core.HLevel.{Σ_prop_path}
use Rattle.std.proofs.Math.Path.{refl, sym, ap}
use Rattle.residue.specs.Cut.{modulus, Residue, cut}
use Rattle.residue.specs.Remainder.{mod-mul-mod, mul-mod-mod}

-- two residues are one where their numbers are
pub number_path : (p : ℕ) (x y : Residue p) → x.0 ≡ y.0 → x ≡ y
number_path p x y = Σ_prop_path (λ (n : ℕ). le_prop {n = suc n} {m = modulus p}) {u = x} {v = y}

-- The laws, each as an equation between remainders.
module _ (p : ℕ) where
  abbrev m : ℕ
  m = modulus p

  pub both : (a b : ℕ) → a % m ≡ b % m → cut p a ≡ cut p b
  unfolding cut
  both a b = number_path p (cut p a) (cut p b)

  pub plus_assoc : (x y z : Residue p) → cut p ((cut p (x.0 + y.0)).0 + z.0) ≡ cut p (x.0 + (cut p (y.0 + z.0)).0)
  unfolding cut
  plus_assoc x y z = both _ _ (simp (mod-add-mod, add-mod-mod, add_assoc))

  pub plus_comm : (x y : Residue p) → cut p (x.0 + y.0) ≡ cut p (y.0 + x.0)
  plus_comm x y = rw (add_comm x.0 y.0) refl

  pub plus-zero : (x : Residue p) → cut p (x.0 + (cut p 0).0) ≡ x
  unfolding cut
  plus-zero x = number_path p _ x (simp (zero-mod, add-zero) (mod-eq_of_lt x.1))

  pub plus-neg : (x : Residue p) → cut p (x.0 + (cut p (m - x.0)).0) ≡ cut p 0
  unfolding cut
  plus-neg x = both _ _ (add-mod-mod x.0 (m - x.0) m ∙ ap (λ (t : ℕ). t % m) (add-sub_of_le (le_of_lt x.1)) ∙ mod_self m ∙ sym (zero-mod m))

  pub times_assoc : (x y z : Residue p) → cut p ((cut p (x.0 * y.0)).0 * z.0) ≡ cut p (x.0 * (cut p (y.0 * z.0)).0)
  unfolding cut
  times_assoc x y z = both _ _ (simp (mod-mul-mod, mul-mod-mod, mul_assoc))

  pub times_comm : (x y : Residue p) → cut p (x.0 * y.0) ≡ cut p (y.0 * x.0)
  times_comm x y = rw (mul_comm x.0 y.0) refl

  pub times-one : (x : Residue p) → cut p (x.0 * (cut p 1).0) ≡ x
  unfolding cut
  times-one x = number_path p _ x (simp (mul-mod-mod, mul-one) (mod-eq_of_lt x.1))

  pub times_dist : (x y z : Residue p) → cut p (x.0 * (cut p (y.0 + z.0)).0) ≡ cut p ((cut p (x.0 * y.0)).0 + (cut p (x.0 * z.0)).0)
  unfolding cut
  times_dist x y z = both _ _ (simp (mul-mod-mod, mod-add-mod, add-mod-mod, mul-add))

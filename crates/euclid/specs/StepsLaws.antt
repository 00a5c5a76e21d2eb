-- The coefficient steps of the row resultant never exceed mn.
--
--   division_steps        one division, and what the later ones take, in numbers
--   turn-steps            the same of two rows
--   steps-bound           the steps of a sequence
--   row_steps-bound        the steps of the row resultant are at most the product of the degrees
use Rattle.std.specs.Prelude.{ℕ, zero, suc, ◌+◌, ◌-◌, ◌*◌, ◌<◌, ◌≤◌, Bool, ◌≡◌, length}
use Rattle.std.proofs.Common.{add-mul, mul_comm, mul-le-mul_left, le_trans, arith, ap, ◌∙◌, subst}
use Rattle.std.proofs.Math.Bool.{true, false}
use mathlib.Core.List.{List, ◌∷◌, map}
use Rattle.std.proofs.Math.Path.{refl, sym}
use Rattle.std.proofs.Math.Dec.{ltb}
use Rattle.residue.specs.Prime.{Prime}
use Rattle.euclid.specs.Row.{declared, degree}
use Rattle.euclid.specs.RowLaws.{Below, Ended, ended-degree}
use Rattle.euclid.specs.Sequence.{monic, following, sequence, steps, steps_by_size, row_steps}
use Rattle.euclid.specs.MonicLaws.{monic-declared}
use Rattle.euclid.specs.FollowingLaws.{Neighbours, shorter_neighbours, longer_neighbours, next, following_induction}

division_steps : (m n s : ℕ) → n ≤ m → s ≤ n * (n - 1) → (m - n + 1) * n + s ≤ m * n
division_steps m zero s order h = omega arith
division_steps m (suc n) s order h =
    let all : (m - suc n + 1) + n ≡ m = omega arith in
    let less : suc n - 1 ≡ n = omega arith in
    omega (arith, ap (λ (z : ℕ). suc n * z) less, mul_comm (suc n) n, add-mul (m - suc n + 1) n (suc n), ap (λ (z : ℕ). z * suc n) all)

module _ (p : ℕ) (two : 2 ≤ p) (prime : Prime p) where
  -- a division of a by b, where the divisions after it take s steps
  turn-steps : (a b : List ℕ) (s : ℕ) → Neighbours p a b → s ≤ declared b * (declared b - 1)
      → (degree a - degree b + 1) * degree b + s ≤ declared a * declared b
  turn-steps a b s n h =
      rw (ended-degree a n.first_ended, ended-degree b n.second_ended) (division_steps (declared a) (declared b) s n.order h)

  pub steps-bound : (k : ℕ) (a b : List ℕ) → Neighbours p a b → length b ≤ k → steps (map degree (a ∷ following p k a b)) ≤ declared a * declared b
  unfolding steps
  steps-bound =
      following_induction p two prime (λ a b rs. steps (map degree (a ∷ rs)) ≤ declared a * declared b)
      (λ a b n e. turn-steps a b 0 n (omega arith)) more
    where
      more : (a b : List ℕ) (rs : List (List ℕ)) → Neighbours p a b → Neighbours p (monic p b) (next p a b) → declared (next p a b) < declared b
          → steps (degree (monic p b) ∷ map degree (next p a b ∷ rs)) ≤ declared (monic p b) * declared (next p a b)
          → steps (degree a ∷ degree b ∷ map degree (next p a b ∷ rs)) ≤ declared a * declared b
      more a b rs n m less h =
          turn-steps a b (steps (degree b ∷ map degree (next p a b ∷ rs))) n
          (le_trans
          (subst (λ (k : ℕ). steps (k ∷ map degree (next p a b ∷ rs)) ≤ declared b * declared (next p a b)) same
          (rw (monic-declared p b) at h))
          (mul-le-mul_left (declared b) (omega arith)))
        where
          same : degree (monic p b) ≡ degree b
          same = ended-degree (monic p b) m.first_ended ∙ monic-declared p b ∙ sym (ended-degree b n.second_ended)

  pub row_steps-bound : (a b : List ℕ) → Ended a → Below p a → Ended b → Below p b → row_steps p a b ≤ declared a * declared b
  unfolding row_steps steps_by_size sequence
  row_steps-bound a b ea ba eb bb = by-size (ltb (degree a) (degree b)) refl
    where
      by-size : (t : Bool) → ltb (degree a) (degree b) ≡ t → steps_by_size p t a b ≤ declared a * declared b
      by-size true e =
          rw (mul_comm (declared a) (declared b)) (steps-bound (length a) b a (shorter_neighbours p a b ea ba eb bb e) (omega arith))
      by-size false e = steps-bound (length b) a b (longer_neighbours p a b ea ba eb bb e) (omega arith)

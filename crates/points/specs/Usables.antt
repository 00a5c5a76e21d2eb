-- The usable points below a number.
--
--   usables-skip, usables-take      one number more: not usable, usable
--   usables-front                   fewer numbers give a front of the list
--   usables_more                    more numbers give no fewer usable points
--   smallest_is                     as many usable points as are needed, all below k, are the smallest ones
use Rattle.std.specs.Prelude.{ℕ, zero, suc, ◌≤◌, Bool, true, false, List, [], ◌∷◌, ◌++◌, ◌≡◌, refl, length, take}
use Rattle.std.proofs.Math.Decide.{ℕ_discrete}
use Rattle.std.proofs.Common.{arith, append_assoc, append-nil, sym, ◌∙◌, length-append}
use Rattle.std.proofs.Math.Bool.{cond}
use Rattle.std.proofs.Math.Path.{ap}
use Rattle.std.proofs.Math.Seq.{take_at}
use Rattle.scope.specs.Pair.{Pair}
use Rattle.scope.specs.Point.{usable, usables, needed, smallest}

module _ (P : Pair) where
  pub usables-skip : (k : ℕ) → usable P k ≡ false → usables P (suc k) ≡ usables P k
  unfolding usables
  usables-skip k e = ap (λ (b : Bool). cond b (usables P k ++ k ∷ []) (usables P k)) e

  pub usables-take : (k : ℕ) → usable P k ≡ true → usables P (suc k) ≡ usables P k ++ k ∷ []
  unfolding usables
  usables-take k e = ap (λ (b : Bool). cond b (usables P k ++ k ∷ []) (usables P k)) e

  -- what one number more adds
  usables-next : (k : ℕ) → (r : List ℕ) × (usables P (suc k) ≡ usables P k ++ r)
  usables-next k = go (usable P k) refl
    where
      go : (b : Bool) → usable P k ≡ b → (r : List ℕ) × (usables P (suc k) ≡ usables P k ++ r)
      go true e = (k ∷ [], usables-take k e)
      go false e = ([], usables-skip k e ∙ sym (append-nil (usables P k)))

  pub usables-front : (j k : ℕ) → j ≤ k → (r : List ℕ) × (usables P k ≡ usables P j ++ r)
  usables-front j zero l = let at : zero ≡ j = omega arith in ([], ap (usables P) at ∙ sym (append-nil (usables P j)))
  usables-front j (suc k) l = elim (ℕ_discrete j (suc k)) [
    | yes q ↦ ([], ap (usables P) (sym q) ∙ sym (append-nil (usables P j)))
    | no q ↦ further (usables-front j k (omega arith)) (usables-next k)
  ]
    where
      further : ((r : List ℕ) × (usables P k ≡ usables P j ++ r)) → ((r : List ℕ) × (usables P (suc k) ≡ usables P k ++ r))
          → (r : List ℕ) × (usables P (suc k) ≡ usables P j ++ r)
      further (r, e) (s, d) = (r ++ s, d ∙ ap (λ (t : List ℕ). t ++ s) e ∙ append_assoc (usables P j) r s)

  pub usables_more : (j k : ℕ) → j ≤ k → length (usables P j) ≤ length (usables P k)
  usables_more j k l = let (r, e) = usables-front j k l in omega (arith, ap length e, length-append (usables P j) r)

  pub smallest_is : (k : ℕ) → k ≤ P.p → length (usables P k) ≡ needed P → smallest P ≡ usables P k
  unfolding smallest
  smallest_is k l all =
      let (r, e) = usables-front k P.p l in
      ap (take (needed P)) e ∙ take_at (usables P k) r (needed P) all

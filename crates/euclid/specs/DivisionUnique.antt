-- A row has one quotient and one remainder by a divisor whose last entry is not 0 modulo p.
--
--   product R B N Q j     the coefficient of x^j in the sum of Q k x^k B for k < N
--   products_unique       products that agree from x^d on have the same factors Q, where B is of degree d and its lead
--                         has an inverse
--   division_unique       two divisions of a by b with residues for entries are one
use Prim.Native.Nat.{ℕ, zero, suc, ◌+◌, ◌-◌, ◌%◌, ◌<◌, ◌≤◌}
use Rattle.std.proofs.Common.{eq-or-lt_of_le, ◌∙◌, subst, inl, inr}
use native.Mathlib.Omega.{arith}
use Rattle.std.specs.Prelude.{List, ◌≡◌, ◌≢◌, ◌⊎◌, get_or}
use Rattle.std.proofs.Math.Path.{sym, ap}
use Rattle.std.proofs.Math.ListN.{length}
use Rattle.ring.specs.Ring.{Ring}
use Rattle.ring.specs.RingLaws.{zero-⊕, ⊗-zero, ⊕_cancel}
use Rattle.ring.specs.Sum.{sum}
use Rattle.ring.specs.SumLaws.{sum_ext, sum-zero, sum-last}
use Rattle.residue.specs.Prime.{Prime}
use Rattle.residue.specs.Residue.{residues, res}
use Rattle.residue.specs.Inverse.{inverse}
use Rattle.sylvester.specs.Sylvester.{moved}
use Rattle.sylvester.specs.Shift.{moved_at}
use Rattle.euclid.specs.Row.{coef, declared}
use Rattle.euclid.specs.RowLaws.{Below, coef_out, row_path, declared_least}
use Rattle.euclid.specs.Division.{IsDivision}
use Rattle.euclid.specs.DivisionLaws.{res-inverse}

module _ (R : Ring) (B : ℕ → Ring.C R) where
  open R use {C, ◌⊕◌, ◌⊗◌, 𝟘, 𝟙, ⊗_assoc, ⊗_comm, ⊗-one}

  product : ℕ → (ℕ → C) → ℕ → C
  product N Q j = sum R N (λ k. Q k ⊗ moved R k B j)

  product-last : (n : ℕ) (Q : ℕ → C) (j : ℕ) → product (suc n) Q j ≡ product n Q j ⊕ Q n ⊗ moved R n B j
  unfolding product
  product-last n Q j = sum-last R n (λ k. Q k ⊗ moved R k B j)

  module _ (d : ℕ) (high : (j : ℕ) → d < j → B j ≡ 𝟘) (i : C) (unit : i ⊗ B d ≡ 𝟙) where
    -- the highest coefficient is that of the last term
    product-top : (n : ℕ) (Q : ℕ → C) → product (suc n) Q (n + d) ≡ Q n ⊗ B d
    unfolding product
    product-top n Q =
        product-last n Q (n + d)
        ∙ ap (λ (z : C). z ⊕ Q n ⊗ moved R n B (n + d)) (sum-zero R n (λ k. Q k ⊗ moved R k B (n + d)) low)
        ∙ zero-⊕ R (Q n ⊗ moved R n B (n + d))
        ∙ ap (λ (z : C). Q n ⊗ z) (moved_at R n B d)
      where
        low : (k : ℕ) → k < n → Q k ⊗ moved R k B (n + d) ≡ 𝟘
        low k l =
            let e : n + d ≡ k + (n + d - k) = omega arith in
            ap (λ (z : ℕ). Q k ⊗ moved R k B z) e
            ∙ ap (λ (z : C). Q k ⊗ z) (moved_at R k B (n + d - k) ∙ high (n + d - k) (omega arith))
            ∙ ⊗-zero R (Q k)

    undo : (x : C) → (x ⊗ B d) ⊗ i ≡ x
    undo x = ⊗_assoc x (B d) i ∙ ap (λ (z : C). x ⊗ z) (⊗_comm (B d) i ∙ unit) ∙ ⊗-one x

    pub products_unique : (N : ℕ) (Q Q' : ℕ → C)
        → ((j : ℕ) → d ≤ j → sum R N (λ k. Q k ⊗ moved R k B j) ≡ sum R N (λ k. Q' k ⊗ moved R k B j))
        → (k : ℕ) → k < N → Q k ≡ Q' k
    unfolding product
    products_unique zero Q Q' same k l = absurd (omega arith)
    products_unique (suc n) Q Q' same k l =
        by_place (eq-or-lt_of_le l) (products_unique n Q Q' less k)
      where
        top : Q n ≡ Q' n
        top =
            sym (undo (Q n))
            ∙ ap (λ (z : C). z ⊗ i) (sym (product-top n Q) ∙ same (n + d) (omega arith) ∙ product-top n Q')
            ∙ undo (Q' n)

        less : (j : ℕ) → d ≤ j → product n Q j ≡ product n Q' j
        less j h =
            ⊕_cancel R (product n Q j) (product n Q' j) (Q n ⊗ moved R n B j)
            (sym (product-last n Q j)
            ∙ same j h
            ∙ product-last n Q' j
            ∙ ap (λ (z : C). product n Q' j ⊕ z ⊗ moved R n B j) (sym top))

        by_place : (suc k ≡ suc n) ⊎ (suc k < suc n) → (k < n → Q k ≡ Q' k) → Q k ≡ Q' k
        by_place (inl e) lower = let e' : k ≡ n = omega arith in subst (λ (z : ℕ). Q z ≡ Q' z) (sym e') top
        by_place (inr h) lower = lower (omega arith)

module _ (p : ℕ) (two : 2 ≤ p) (prime : Prime p) (a b : List ℕ) (last : get_or b (declared b) 0 % p ≢ 0) where
  open residues p use {C, ◌⊕◌, ◌⊗◌, 𝟘}

  pub division_unique : (q r q' r' : List ℕ) → IsDivision p a b q r → IsDivision p a b q' r'
      → Below p q → Below p q' → Below p r → Below p r' → (q ≡ q') × (r ≡ r')
  unfolding coef
  division_unique q r q' r' D D' hq hq' hr hr' =
      (row_path p q q' hq hq' counts quotients, row_path p r r' hr hr' lengths remainders)
    where
      counts : length q ≡ length q'
      counts = D.quotient-length ∙ sym D'.quotient-length

      lengths : length r ≡ length r'
      lengths = D.remainder-length ∙ ap (λ (n : ℕ). length a - n) counts ∙ sym D'.remainder-length

      product_of : ℕ → List ℕ → ℕ → C
      product_of N q j = sum (residues p) N (λ k. coef p q k ⊗ moved (residues p) k (coef p b) j)

      both : (j : ℕ) → coef p r j ⊕ product_of (length q) q j ≡ coef p r' j ⊕ product_of (length q) q' j
      both j =
          sym (D.equation j)
          ∙ D'.equation j
          ∙ ap (λ (n : ℕ). coef p r' j ⊕ product_of n q' j) (sym counts)

      -- from the divisor's degree on the remainders are 0
      short : (j : ℕ) → declared b ≤ j → product_of (length q) q j ≡ product_of (length q) q' j
      short j h =
          sym (zero-⊕ (residues p) (product_of (length q) q j))
          ∙ ap (λ (z : C). z ⊕ product_of (length q) q j) (sym (coef_out p r j out))
          ∙ both j
          ∙ ap (λ (z : C). z ⊕ product_of (length q) q' j) (coef_out p r' j (omega (arith, lengths)))
          ∙ zero-⊕ (residues p) (product_of (length q) q' j)
        where
          out : length r ≤ j
          out = omega (arith, D.remainder-length, D.quotient-length)

      quotients : (k : ℕ) → k < length q → coef p q k ≡ coef p q' k
      quotients =
          products_unique (residues p) (coef p b) (declared b) (λ j h. coef_out p b j (omega (arith, declared_least b)))
          (res p (inverse p (get_or b (declared b) 0))) (res-inverse p two prime (get_or b (declared b) 0) last)
          (length q) (coef p q) (coef p q') short

      remainders : (j : ℕ) → j < length r → coef p r j ≡ coef p r' j
      remainders j _ =
          ⊕_cancel (residues p) (coef p r j) (coef p r' j) (product_of (length q) q j)
          (both j
          ∙ ap (λ (z : C). coef p r' j ⊕ z)
          (sym (sum_ext (residues p) (length q) _ _ (λ k l. ap (λ (z : C). z ⊗ moved (residues p) k (coef p b) j) (quotients k l)))))

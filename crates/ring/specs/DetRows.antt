-- Determinants: laws that change many rows at once.
--
--   det-add_rows         multiples of later rows added to the first rows
--   det-scale_between    rows s to s + t multiplied by one factor
--   det-scale_rows       the first rows multiplied by one factor
--   det-scale-last       the last rows multiplied by one factor
use Prim.Native.Nat.{ℕ, zero, suc, ◌+◌, ◌≤◌, ◌<◌}
use Rattle.std.proofs.Common.{le_refl, arith, ap₂, ◌∙◌}
use Rattle.std.proofs.Math.Decide.{dec_lt, ℕ_discrete}
use Rattle.std.specs.Prelude.{◌≡◌, refl, ◌≢◌}
use Rattle.std.proofs.Math.Path.{sym, ap, fun_ext}
use Rattle.ring.specs.Ring.{Ring, pow}
use Rattle.ring.specs.RingLaws.{one-⊗, pow-one}
use Rattle.ring.specs.Matrix.{put}
use Rattle.ring.specs.MatrixLaws.{put_same, put_other, put_self}
use Rattle.ring.specs.Det.{det}
use Rattle.ring.specs.DetLaws.{det_ext, det-put, det-scale}
use Rattle.ring.specs.DetSwap.{det-add_multiple}

module _ (R : Ring) where
  open R use {C, ◌⊕◌, ◌⊗◌, 𝟙, ⊗_assoc}

  -- outside the rows s to s + t the matrices agree
  record Outside (N s t : ℕ) (A B : ℕ → ℕ → C) : Type 0 where
    low : (i k : ℕ) → i < s → k < N → B i k ≡ A i k
    high : (i k : ℕ) → s + t ≤ i → i < N → k < N → B i k ≡ A i k

  -- Rows s to s + u of A are to become those of T. Where each single change multiplies the determinant by d, any t of
  -- them together multiply it by the t-th power.
  module _ (N s u : ℕ) (d : C) (A T : ℕ → ℕ → C) (fits : s + u ≤ N)
      (step : (i : ℕ) (M : ℕ → ℕ → C) → s ≤ i → i < s + u → ((k : ℕ) → k < N → M i k ≡ A i k) → Outside N s u A M
      → det R N (put i (T i) M) ≡ d ⊗ det R N M) where
    row_by_row : (t : ℕ) (B : ℕ → ℕ → C) → t ≤ u → ((i k : ℕ) → s ≤ i → i < s + t → k < N → B i k ≡ T i k)
        → Outside N s t A B → det R N B ≡ pow R d t ⊗ det R N A
    unfolding pow
    row_by_row zero B lt new o = det_ext R N B A same ∙ sym (one-⊗ R (det R N A))
      where
        same : (i k : ℕ) → i < N → k < N → B i k ≡ A i k
        same i k li lk = elim (dec_lt i s) [ yes l ↦ o.low i k l lk | no l ↦ o.high i k (omega arith) li lk ]
    row_by_row (suc t) B lt new o =
        det-put R N (s + t) (T (s + t)) M B (λ k lk. new (s + t) k (omega arith) (omega arith) lk) (λ j k lj lk ne. sym (off j k ne))
        ∙ step (s + t) M (omega arith) (omega arith) (λ k lk. at k) outer
        ∙ ap (λ (x : C). d ⊗ x) (row_by_row t M (omega arith) (λ i k li l lk. off i k (omega arith) ∙ new i k li (omega arith) lk) inner)
        ∙ sym (⊗_assoc d (pow R d t) (det R N A))
      where
        M : ℕ → ℕ → C
        M = put (s + t) (A (s + t)) B

        at : (k : ℕ) → M (s + t) k ≡ A (s + t) k
        at k = ap (λ (r : ℕ → C). r k) (put_same (s + t) (A (s + t)) B)

        off : (j k : ℕ) → j ≢ s + t → M j k ≡ B j k
        off j k ne = ap (λ (r : ℕ → C). r k) (put_other (s + t) j (A (s + t)) B ne)

        outer : Outside N s u A M
        outer = record {
          low = λ i k l lk. off i k (omega arith) ∙ o.low i k l lk;
          high = λ i k l li lk. off i k (omega arith) ∙ o.high i k (omega arith) li lk;
        }

        inner : Outside N s t A M
        inner = record {
          low = λ i k l lk. off i k (omega arith) ∙ o.low i k l lk;
          high = λ i k l li lk. elim (ℕ_discrete i (s + t)) [
            | yes e ↦ ap (λ (j : ℕ). M j k) e ∙ at k ∙ ap (λ (j : ℕ). A j k) (sym e)
            | no ne ↦ off i k ne ∙ o.high i k (omega arith) li lk
          ];
        }

  -- a row replaced by an equal row
  put_equal : (N i : ℕ) (r s : ℕ → C) (M : ℕ → ℕ → C) → ((k : ℕ) → k < N → r k ≡ s k) → det R N (put i r M) ≡ det R N (put i s M)
  put_equal N i r s M h =
      det-put R N i s M (put i r M) (λ k lk. ap (λ (r : ℕ → C). r k) (put_same i r M) ∙ h k lk)
      (λ j k lj lk ne. ap (λ (r : ℕ → C). r k) (put_other i j r M ne))

  pub det-add_rows : (N s : ℕ) (A B : ℕ → ℕ → C) (c : ℕ → C) (f : ℕ → ℕ) → s ≤ N → ((i : ℕ) → i < s → s ≤ f i) → ((i : ℕ) → i < s → f i < N)
      → ((i k : ℕ) → i < s → k < N → B i k ≡ A i k ⊕ c i ⊗ A (f i) k)
      → ((i k : ℕ) → s ≤ i → i < N → k < N → B i k ≡ A i k) → det R N B ≡ det R N A
  det-add_rows N s A B c f ls low high new old =
      row_by_row N zero s 𝟙 A B (omega arith) step s B (le_refl s) (λ i k li l lk. refl)
      record { low = λ i k l lk. absurd (omega arith); high = λ i k l li lk. old i k (omega arith) li lk }
      ∙ ap (λ (x : C). x ⊗ det R N A) (pow-one R s)
      ∙ one-⊗ R (det R N A)
    where
      step : (i : ℕ) (M : ℕ → ℕ → C) → zero ≤ i → i < zero + s → ((k : ℕ) → k < N → M i k ≡ A i k) → Outside N zero s A M
          → det R N (put i (B i) M) ≡ 𝟙 ⊗ det R N M
      step i M l0 l at o =
          let lf : s ≤ f i = low i (omega arith) in
          let l_n : f i < N = high i (omega arith) in
          put_equal N i (B i) (λ k. M i k ⊕ c i ⊗ M (f i) k) M
          (λ k lk. new i k (omega arith) lk ∙ ap₂ (λ (x y : C). x ⊕ c i ⊗ y) (sym (at k lk)) (sym (o.high (f i) k (omega arith) l_n lk)))
          ∙ det-add_multiple R N i (f i) (c i) M (omega arith) (omega arith) l_n
          ∙ sym (one-⊗ R (det R N M))

  pub det-scale_between : (N s t : ℕ) (A B : ℕ → ℕ → C) (c : C) → s + t ≤ N → ((i k : ℕ) → s ≤ i → i < s + t → k < N → B i k ≡ c ⊗ A i k)
      → ((i k : ℕ) → i < s → k < N → B i k ≡ A i k) → ((i k : ℕ) → s + t ≤ i → i < N → k < N → B i k ≡ A i k)
      → det R N B ≡ pow R c t ⊗ det R N A
  det-scale_between N s t A B c fits new low high =
      row_by_row N s t c A B fits step t B (le_refl t) (λ i k li l lk. refl) record { low = low; high = high }
    where
      step : (i : ℕ) (M : ℕ → ℕ → C) → s ≤ i → i < s + t → ((k : ℕ) → k < N → M i k ≡ A i k) → Outside N s t A M
          → det R N (put i (B i) M) ≡ c ⊗ det R N M
      step i M li l at o =
          put_equal N i (B i) (λ k. c ⊗ M i k) M (λ k lk. new i k li l lk ∙ ap (λ (x : C). c ⊗ x) (sym (at k lk)))
          ∙ det-scale R N i c (M i) M (omega arith)
          ∙ ap (λ (X : ℕ → ℕ → C). c ⊗ det R N X) (fun_ext (put_self i M))

  pub det-scale_rows : (N s : ℕ) (A B : ℕ → ℕ → C) (c : C) → s ≤ N → ((i k : ℕ) → i < s → k < N → B i k ≡ c ⊗ A i k)
      → ((i k : ℕ) → s ≤ i → i < N → k < N → B i k ≡ A i k) → det R N B ≡ pow R c s ⊗ det R N A
  det-scale_rows N s A B c l new old =
      det-scale_between N zero s A B c (omega arith) (λ i k li l lk. new i k (omega arith) lk) (λ i k l lk. absurd (omega arith))
      (λ i k l li lk. old i k (omega arith) li lk)

  pub det-scale-last : (s t : ℕ) (A B : ℕ → ℕ → C) (c : C) → ((i k : ℕ) → s ≤ i → i < s + t → k < s + t → B i k ≡ c ⊗ A i k)
      → ((i k : ℕ) → i < s → k < s + t → B i k ≡ A i k) → det R (s + t) B ≡ pow R c t ⊗ det R (s + t) A
  det-scale-last s t A B c new old =
      det-scale_between (s + t) s t A B c (omega arith) new old (λ i k l li lk. absurd (omega arith))

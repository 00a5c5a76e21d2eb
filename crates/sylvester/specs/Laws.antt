-- Laws of Sylvester's determinant at declared degrees, leading zeros allowed, over any commutative ring.
--
--   resultant_ext               only the coefficients up to the declared degrees count
--   resultant_const_left        m = 0: a_0^n
--   resultant_const-right       n = 0: b_0^m
--   resultant_const_both        m = n = 0: 1
--   resultant_swap              swapping A and B multiplies by (-1)^(mn)
--   resultant-scale_left        multiplying A by c multiplies by c^n
--   resultant-scale-right       multiplying B by c multiplies by c^m
--   resultant-add               adding c x^k B to A changes nothing
--   resultant-division          nor does adding a multiple of B
--   resultant-drop_left         A's leading coefficient is 0: (-1)^n b_n times the one of degree one less
--   resultant-drop-right        B's leading coefficient is 0: a_m times the one of degree one less
--   resultant-drop_both         both leading coefficients are 0 and m + n > 0: 0
--   resultant_fall_left         A falls from degree k + d to k: (-1)^(nd) b_n^d times
--   resultant_fall-right        B falls from degree k + d to k: a_m^d times
--   resultant-zero_left         A is zero and n > 0: 0
--   resultant-monic_step        one step of the monic remainder sequence
use Prim.Native.Nat.{ℕ, zero, suc, ◌+◌, ◌-◌, ◌*◌, ◌<◌, ◌≤◌}
use Rattle.std.proofs.Math.Nat.{zero-add, suc-add, add-suc, add-zero}
use Rattle.std.proofs.Common.{add_comm, mul-suc, add-one, ◌∙◌, subst}
use native.Mathlib.Omega.{arith}
use Rattle.std.proofs.Math.Decide.{dec_lt}
use Rattle.std.specs.Prelude.{◌≡◌, ◌≢◌}
use Rattle.std.proofs.Math.Path.{refl, sym, ap}
use Rattle.ring.specs.Ring.{Ring, pow, sign}
use Rattle.ring.specs.RingLaws.{⊗-zero, zero-⊗, one-⊗, sign_twice, ⊗_left_comm, pow-one}
use Rattle.ring.specs.Det.{det, skip}
use Rattle.ring.specs.Sum.{sum}
use Rattle.ring.specs.Matrix.{stack}
use Rattle.ring.specs.MatrixLaws.{stack_low, stack_high}
use Rattle.ring.specs.DetLaws.{det_ext, det_column, det-zero_row, det_triangular}
use Rattle.ring.specs.DetRows.{det-add_rows, det-scale_rows}
use Rattle.ring.specs.DetMove.{det-stack_swap}
use Rattle.sylvester.specs.Sylvester.{top, moved, sylvester, resultant}
use Rattle.sylvester.specs.Shift.{moved_at, moved_out, moved-moved, moved_ext, moved-⊕, moved-⊗, top_ext, top-⊕, top-⊗, top-drop, top_shift}

-- taking row n out keeps the rows before it and moves up those after it
skip-before : (n i : ℕ) → i < n → skip n i ≡ i
unfolding skip
skip-before zero i h = absurd (omega arith)
skip-before (suc n) zero h = refl
skip-before (suc n) (suc i) h = ap suc (skip-before n i (omega arith))

skip-after : (n i : ℕ) → skip n (n + i) ≡ suc (n + i)
unfolding skip
skip-after zero i = rw zero-add refl
skip-after (suc n) i = rw suc-add (ap suc (skip-after n i))

module _ (R : Ring) where
  open R use {C, ◌⊕◌, ◌⊗◌, ⊖◌, 𝟘, 𝟙, ⊕-zero, ⊕_assoc, ⊗_assoc, ⊗_comm, ⊗-one}

  -- the two kinds of rows
  sylvester_first : (m n : ℕ) (a b : ℕ → C) (i k : ℕ) → i < n → sylvester R m n a b i k ≡ moved R i (top R m a) k
  unfolding sylvester
  sylvester_first m n a b i k h = ap (λ (z : ℕ → C). z k) (stack_low n i (λ i. moved R i (top R m a)) (λ i. moved R i (top R n b)) h)

  sylvester_second : (m n : ℕ) (a b : ℕ → C) (i k : ℕ) → sylvester R m n a b (n + i) k ≡ moved R i (top R n b) k
  unfolding sylvester
  sylvester_second m n a b i k = ap (λ (z : ℕ → C). z k) (stack_high n i (λ i. moved R i (top R m a)) (λ i. moved R i (top R n b)))

  -- a fact about every row is a fact about the rows of each kind
  by_rows : (m n : ℕ) (P : ℕ → Type 0) → ((i : ℕ) → i < n → P i) → ((i : ℕ) → i < m → P (n + i)) → (i : ℕ) → i < m + n → P i
  by_rows m n P first second i h = elim (dec_lt i n) [ yes l ↦ first i l | no l ↦ later l ]
    where
      later : (i < n → ⊥) → P i
      later l = let e : n + (i - n) ≡ i = omega arith in subst P e (second (i - n) (omega arith))

  -- equal rows of each kind give equal determinants
  resultant_rows : (m n : ℕ) (a b : ℕ → C) (B : ℕ → ℕ → C)
      → ((i k : ℕ) → i < n → B i k ≡ moved R i (top R m a) k)
      → ((i k : ℕ) → i < m → B (n + i) k ≡ moved R i (top R n b) k)
      → det R (m + n) B ≡ resultant R m n a b
  unfolding resultant
  resultant_rows m n a b B first second =
      det_ext R (m + n) B (sylvester R m n a b) (λ i k h _. same i h k)
    where
      same : (i : ℕ) → i < m + n → (k : ℕ) → B i k ≡ sylvester R m n a b i k
      same =
          by_rows m n (λ i. (k : ℕ) → B i k ≡ sylvester R m n a b i k)
          (λ i h k. first i k h ∙ sym (sylvester_first m n a b i k h))
          (λ i h k. second i k h ∙ sym (sylvester_second m n a b i k))

  pub resultant_ext : (m n : ℕ) (a a' b b' : ℕ → C) → ((j : ℕ) → j ≤ m → a j ≡ a' j) → ((j : ℕ) → j ≤ n → b j ≡ b' j)
      → resultant R m n a b ≡ resultant R m n a' b'
  unfolding resultant
  resultant_ext m n a a' b b' ha hb =
      resultant_rows m n a' b' (sylvester R m n a b)
      (λ i k h. sylvester_first m n a b i k h ∙ moved_ext R i (top R m a) (top R m a') k (λ j _. top_ext R m a a' j ha))
      (λ i k _. sylvester_second m n a b i k ∙ moved_ext R i (top R n b) (top R n b') k (λ j _. top_ext R n b b' j hb))

  -- the first entry of a row stands where the row was moved to
  diagonal : (m : ℕ) (a : ℕ → C) (i : ℕ) → moved R i (top R m a) i ≡ a m
  unfolding top
  diagonal m a i =
      let e : i ≡ i + zero = omega arith in ap (λ (z : ℕ). moved R i (top R m a) z) e ∙ moved_at R i (top R m a) zero

  pub resultant_const_left : (n : ℕ) (a b : ℕ → C) → resultant R zero n a b ≡ pow R (a zero) n
  unfolding resultant
  resultant_const_left n a b =
      rw zero-add (det_triangular R n (sylvester R zero n a b) (a zero)
      (λ i k h l. sylvester_first zero n a b i k h ∙ moved_out R i (top R zero a) k l)
      (λ i h. sylvester_first zero n a b i i h ∙ diagonal zero a i))

  pub resultant_const-right : (m : ℕ) (a b : ℕ → C) → resultant R m zero a b ≡ pow R (b zero) m
  unfolding resultant sylvester stack
  resultant_const-right m a b =
      rw add-zero (det_triangular R m (sylvester R m zero a b) (b zero)
      (λ i k h l. moved_out R i (top R zero b) k l)
      (λ i h. diagonal zero b i))

  pub resultant_const_both : (a b : ℕ → C) → resultant R zero zero a b ≡ 𝟙
  unfolding pow
  resultant_const_both a b = resultant_const_left zero a b

  pub resultant_swap : (m n : ℕ) (a b : ℕ → C) → resultant R m n a b ≡ sign R (m * n) ⊗ resultant R n m b a
  unfolding resultant sylvester
  resultant_swap m n a b =
      rw (add_comm m n) (det-stack_swap R m n (λ i. moved R i (top R m a)) (λ i. moved R i (top R n b)))

  pub resultant-scale_left : (m n : ℕ) (c : C) (a b : ℕ → C)
      → resultant R m n (λ j. c ⊗ a j) b ≡ pow R c n ⊗ resultant R m n a b
  unfolding resultant
  resultant-scale_left m n c a b =
      det-scale_rows R (m + n) n (sylvester R m n a b) (sylvester R m n (λ j. c ⊗ a j) b) c (omega arith) scaled
      (λ i k l h _. same i l h k)
    where
      scaled : (i k : ℕ) → i < n → k < m + n → sylvester R m n (λ j. c ⊗ a j) b i k ≡ c ⊗ sylvester R m n a b i k
      scaled i k h _ =
          sylvester_first m n (λ j. c ⊗ a j) b i k h
          ∙ moved_ext R i (top R m (λ j. c ⊗ a j)) (λ j. c ⊗ top R m a j) k (λ j _. top-⊗ R m c a j)
          ∙ moved-⊗ R i c (top R m a) k
          ∙ ap (λ (z : C). c ⊗ z) (sym (sylvester_first m n a b i k h))

      same : (i : ℕ) → n ≤ i → i < m + n → (k : ℕ) → sylvester R m n (λ j. c ⊗ a j) b i k ≡ sylvester R m n a b i k
      same i l h k =
          let e : i ≡ n + (i - n) = omega arith in
          ap (λ (z : ℕ). sylvester R m n (λ j. c ⊗ a j) b z k) e
          ∙ sylvester_second m n (λ j. c ⊗ a j) b (i - n) k
          ∙ sym (sylvester_second m n a b (i - n) k)
          ∙ ap (λ (z : ℕ). sylvester R m n a b z k) (sym e)

  pub resultant-scale-right : (m n : ℕ) (c : C) (a b : ℕ → C)
      → resultant R m n a (λ j. c ⊗ b j) ≡ pow R c m ⊗ resultant R m n a b
  resultant-scale-right m n c a b =
      resultant_swap m n a (λ j. c ⊗ b j)
      ∙ ap (λ (z : C). sign R (m * n) ⊗ z) (resultant-scale_left n m c b a)
      ∙ ⊗_left_comm R (sign R (m * n)) (pow R c m) (resultant R n m b a)
      ∙ ap (λ (z : C). pow R c m ⊗ z) (sym (resultant_swap m n a b))

  pub resultant-add : (m n k : ℕ) (c : C) (a b : ℕ → C) → n + k ≤ m → ((j : ℕ) → n < j → b j ≡ 𝟘)
      → resultant R m n (λ j. a j ⊕ c ⊗ moved R k b j) b ≡ resultant R m n a b
  unfolding resultant
  resultant-add m n k c a b fits high =
      det-add_rows R (m + n) n (sylvester R m n a b) (sylvester R m n added b) (λ _. c) (λ i. n + (i + s))
      (omega arith) (λ i h. omega arith) (λ i h. omega arith) grown (λ i k l h _. same i l h k)
    where
      added : ℕ → C
      added j = a j ⊕ c ⊗ moved R k b j

      s : ℕ
      s = m - (n + k)

      places : s + (n + k) ≡ m
      places = omega arith

      row : (t : ℕ) → top R m added t ≡ top R m a t ⊕ c ⊗ moved R s (top R n b) t
      row t =
          top-⊕ R m a (λ j. c ⊗ moved R k b j) t
          ∙ ap (λ (z : C). top R m a t ⊕ z)
          (top-⊗ R m c (moved R k b) t ∙ ap (λ (z : C). c ⊗ z) (top_shift R m n k s b t places high))

      grown : (i t : ℕ) → i < n → t < m + n
          → sylvester R m n added b i t ≡ sylvester R m n a b i t ⊕ c ⊗ sylvester R m n a b (n + (i + s)) t
      grown i t h _ =
          sylvester_first m n added b i t h
          ∙ moved_ext R i (top R m added) (λ t. top R m a t ⊕ c ⊗ moved R s (top R n b) t) t (λ j _. row j)
          ∙ moved-⊕ R i (top R m a) (λ t. c ⊗ moved R s (top R n b) t) t
          ∙ ap (λ (z : C). moved R i (top R m a) t ⊕ z)
          (moved-⊗ R i c (moved R s (top R n b)) t
          ∙ ap (λ (z : C). c ⊗ z) (moved-moved R i s (top R n b) t ∙ sym (sylvester_second m n a b (i + s) t)))
          ∙ ap (λ (z : C). z ⊕ c ⊗ sylvester R m n a b (n + (i + s)) t) (sym (sylvester_first m n a b i t h))

      same : (i : ℕ) → n ≤ i → i < m + n → (t : ℕ) → sylvester R m n added b i t ≡ sylvester R m n a b i t
      same i l h t =
          let e : i ≡ n + (i - n) = omega arith in
          ap (λ (z : ℕ). sylvester R m n added b z t) e
          ∙ sylvester_second m n added b (i - n) t
          ∙ sym (sylvester_second m n a b (i - n) t)
          ∙ ap (λ (z : ℕ). sylvester R m n a b z t) (sym e)

  -- a_j is r_j plus the coefficient of x^j in the product of B and a polynomial with L coefficients
  pub resultant-division : (m n L : ℕ) (q a b r : ℕ → C) → L + n ≤ suc m → ((j : ℕ) → n < j → b j ≡ 𝟘)
      → ((j : ℕ) → j ≤ m → a j ≡ r j ⊕ sum R L (λ k. q k ⊗ moved R k b j))
      → resultant R m n a b ≡ resultant R m n r b
  unfolding sum
  resultant-division m n L q a b r fits high eq =
      resultant_ext m n a (λ j. r j ⊕ sum R L (λ k. q k ⊗ moved R k b j)) b b eq (λ j _. refl)
      ∙ many L q (λ k. k) r (λ k h. omega arith)
    where
      many : (L : ℕ) (q : ℕ → C) (e : ℕ → ℕ) (r : ℕ → C) → ((k : ℕ) → k < L → n + e k ≤ m)
          → resultant R m n (λ j. r j ⊕ sum R L (λ k. q k ⊗ moved R (e k) b j)) b ≡ resultant R m n r b
      many zero q e r l = resultant_ext m n (λ j. r j ⊕ 𝟘) r b b (λ j _. ⊕-zero (r j)) (λ j _. refl)
      many (suc L) q e r l =
          resultant_ext m n (λ j. r j ⊕ (q zero ⊗ moved R (e zero) b j ⊕ rest j)) (λ j. (r j ⊕ q zero ⊗ moved R (e zero) b j) ⊕ rest j) b b
          (λ j _. sym (⊕_assoc (r j) (q zero ⊗ moved R (e zero) b j) (rest j))) (λ j _. refl)
          ∙ many L (λ k. q (suc k)) (λ k. e (suc k)) (λ j. r j ⊕ q zero ⊗ moved R (e zero) b j) (λ k h. l (suc k) (omega arith))
          ∙ resultant-add m n (e zero) (q zero) r b (l zero (omega arith)) high
        where
          rest : ℕ → C
          rest j = sum R L (λ k. q (suc k) ⊗ moved R (e (suc k)) b j)

  pub resultant-drop_left : (m n : ℕ) (a b : ℕ → C) → a (suc m) ≡ 𝟘
      → resultant R (suc m) n a b ≡ (sign R n ⊗ b n) ⊗ resultant R m n a b
  unfolding resultant moved
  resultant-drop_left m n a b h =
      rw suc-add (det_column R (m + n) n S (omega arith) lone
      ∙ sym (⊗_assoc (sign R n) (S n zero) (det R (m + n) (λ i k. S (skip n i) (suc k))))
      ∙ ap (λ (z : C). (sign R n ⊗ z) ⊗ det R (m + n) (λ i k. S (skip n i) (suc k))) pivot
      ∙ ap (λ (z : C). (sign R n ⊗ b n) ⊗ z)
      (resultant_rows m n a b (λ i k. S (skip n i) (suc k)) first second))
    where
      S : ℕ → ℕ → C
      S = sylvester R (suc m) n a b

      row : (k : ℕ) → top R (suc m) a k ≡ moved R 1 (top R m a) k
      row k = top-drop R m a k h

      before : (i k : ℕ) → moved R i (top R (suc m) a) k ≡ moved R (suc i) (top R m a) k
      before i k =
          moved_ext R i (top R (suc m) a) (moved R 1 (top R m a)) k (λ j _. row j)
          ∙ moved-moved R i 1 (top R m a) k
          ∙ ap (λ (z : ℕ). moved R z (top R m a) k) (add-one i)

      pivot : S n zero ≡ b n
      pivot =
          let e : n ≡ n + zero = omega arith in
          ap (λ (z : ℕ). S z zero) e ∙ sylvester_second (suc m) n a b zero zero ∙ diagonal n b zero

      lone : (i : ℕ) → i ≤ m + n → i ≢ n → S i zero ≡ 𝟘
      lone i l d =
          by_rows (suc m) n (λ i. i ≢ n → S i zero ≡ 𝟘)
          (λ i h _. sylvester_first (suc m) n a b i zero h ∙ before i zero ∙ moved_out R (suc i) (top R m a) zero (omega arith))
          (λ i h d. sylvester_second (suc m) n a b i zero ∙ moved_out R i (top R n b) zero (omega arith))
          i (omega arith) d

      first : (i k : ℕ) → i < n → S (skip n i) (suc k) ≡ moved R i (top R m a) k
      first i k l =
          ap (λ (z : ℕ). S z (suc k)) (skip-before n i l)
          ∙ sylvester_first (suc m) n a b i (suc k) l
          ∙ before i (suc k)

      second : (i k : ℕ) → i < m → S (skip n (n + i)) (suc k) ≡ moved R i (top R n b) k
      second i k l =
          let e : suc (n + i) ≡ n + suc i = omega arith in
          ap (λ (z : ℕ). S z (suc k)) (skip-after n i ∙ e)
          ∙ sylvester_second (suc m) n a b (suc i) (suc k)

  pub resultant-drop-right : (m n : ℕ) (a b : ℕ → C) → b (suc n) ≡ 𝟘
      → resultant R m (suc n) a b ≡ a m ⊗ resultant R m n a b
  resultant-drop-right m n a b h =
      resultant_swap m (suc n) a b
      ∙ ap (λ (z : C). sign R (m * suc n) ⊗ z) (resultant-drop_left n m b a h)
      ∙ signs
      ∙ ap (λ (z : C). a m ⊗ z) (sym (resultant_swap m n a b))
    where
      r : C
      r = resultant R n m b a

      even : sign R (m * suc n) ⊗ sign R m ≡ sign R (m * n)
      even = ap (λ (z : ℕ). sign R z ⊗ sign R m) (mul-suc m n) ∙ sign_twice R (m * n) m

      signs : sign R (m * suc n) ⊗ ((sign R m ⊗ a m) ⊗ r) ≡ a m ⊗ (sign R (m * n) ⊗ r)
      signs =
          ap (λ (z : C). sign R (m * suc n) ⊗ z) (⊗_assoc (sign R m) (a m) r)
          ∙ sym (⊗_assoc (sign R (m * suc n)) (sign R m) (a m ⊗ r))
          ∙ ap (λ (z : C). z ⊗ (a m ⊗ r)) even
          ∙ ⊗_left_comm R (sign R (m * n)) (a m) r

  pub resultant-drop_both : (m n : ℕ) (a b : ℕ → C) → 0 < m + n → a m ≡ 𝟘 → b n ≡ 𝟘 → resultant R m n a b ≡ 𝟘
  resultant-drop_both zero zero a b some ha hb = absurd (omega arith)
  resultant-drop_both zero (suc n) a b some ha hb =
      resultant-drop-right zero n a b hb
      ∙ ap (λ (z : C). z ⊗ resultant R zero n a b) ha
      ∙ zero-⊗ R (resultant R zero n a b)
  resultant-drop_both (suc m) n a b some ha hb =
      resultant-drop_left m n a b ha
      ∙ ap (λ (z : C). z ⊗ resultant R m n a b) (ap (λ (z : C). sign R n ⊗ z) hb ∙ ⊗-zero R (sign R n))
      ∙ zero-⊗ R (resultant R m n a b)

  pub resultant_fall-right : (k d m : ℕ) (a b : ℕ → C) → ((j : ℕ) → k < j → j ≤ k + d → b j ≡ 𝟘)
      → resultant R m (k + d) a b ≡ pow R (a m) d ⊗ resultant R m k a b
  unfolding pow
  resultant_fall-right k zero m a b h = rw add-zero (sym (one-⊗ R (resultant R m k a b)))
  resultant_fall-right k (suc d) m a b h =
      rw add-suc (resultant-drop-right m (k + d) a b (h (suc (k + d)) (omega arith) (omega arith))
      ∙ ap (λ (z : C). a m ⊗ z) (resultant_fall-right k d m a b (λ j l u. h j l (omega arith)))
      ∙ sym (⊗_assoc (a m) (pow R (a m) d) (resultant R m k a b)))

  pub resultant_fall_left : (k d n : ℕ) (a b : ℕ → C) → ((j : ℕ) → k < j → j ≤ k + d → a j ≡ 𝟘)
      → resultant R (k + d) n a b ≡ (sign R (n * d) ⊗ pow R (b n) d) ⊗ resultant R k n a b
  resultant_fall_left k d n a b h =
      resultant_swap (k + d) n a b
      ∙ ap (λ (z : C). sign R ((k + d) * n) ⊗ z)
      (resultant_fall-right k d n b a h ∙ ap (λ (z : C). pow R (b n) d ⊗ z) (resultant_swap n k b a))
      ∙ ap (λ (z : C). sign R ((k + d) * n) ⊗ z) (⊗_left_comm R (pow R (b n) d) (sign R (n * k)) r)
      ∙ sym (⊗_assoc (sign R ((k + d) * n)) (sign R (n * k)) (pow R (b n) d ⊗ r))
      ∙ ap (λ (z : C). z ⊗ (pow R (b n) d ⊗ r)) even
      ∙ sym (⊗_assoc (sign R (n * d)) (pow R (b n) d) r)
    where
      r : C
      r = resultant R k n a b

      places : (k + d) * n ≡ n * d + n * k
      places = omega arith

      even : sign R ((k + d) * n) ⊗ sign R (n * k) ≡ sign R (n * d)
      even = ap (λ (z : ℕ). sign R z ⊗ sign R (n * k)) places ∙ sign_twice R (n * d) (n * k)

  pub resultant-zero_left : (m n : ℕ) (a b : ℕ → C) → 0 < n → ((j : ℕ) → j ≤ m → a j ≡ 𝟘) → resultant R m n a b ≡ 𝟘
  unfolding resultant moved top
  resultant-zero_left m n a b pos h =
      det-zero_row R (m + n) zero (sylvester R m n a b) (omega arith)
      (λ k _. sylvester_first m n a b zero k pos ∙ top_ext R m a (λ _. 𝟘) k h ∙ zeros m k)
    where
      zeros : (m k : ℕ) → top R m (λ _. 𝟘) k ≡ 𝟘
      zeros m zero = refl
      zeros zero (suc k) = refl
      zeros (suc m) (suc k) = zeros m k

  -- One step of the monic remainder sequence: B is monic of degree n, and A is a multiple of B plus r, of degree at most k.
  pub resultant-monic_step : (m n k L : ℕ) (q a b r : ℕ → C) → L + n ≤ suc m → k ≤ m
      → b n ≡ 𝟙 → ((j : ℕ) → n < j → b j ≡ 𝟘) → ((j : ℕ) → k < j → r j ≡ 𝟘)
      → ((j : ℕ) → j ≤ m → a j ≡ r j ⊕ sum R L (λ k. q k ⊗ moved R k b j))
      → resultant R m n a b ≡ sign R (m * n) ⊗ resultant R n k b r
  resultant-monic_step m n k L q a b r fits low lead high small eq =
      resultant-division m n L q a b r fits high eq
      ∙ resultant_swap m n r b
      ∙ ap (λ (z : C). sign R (m * n) ⊗ z) fall
    where
      fall : resultant R n m b r ≡ resultant R n k b r
      fall =
          let e : m ≡ k + (m - k) = omega arith in
          ap (λ (z : ℕ). resultant R n z b r) e
          ∙ resultant_fall-right k (m - k) n b r (λ j l _. small j l)
          ∙ ap (λ (z : C). pow R z (m - k) ⊗ resultant R n k b r) lead
          ∙ ap (λ (z : C). z ⊗ resultant R n k b r) (pow-one R (m - k))
          ∙ one-⊗ R (resultant R n k b r)

-- Pairs that differ at most in the bounds of their degrees in y have everything that is computed from them in common.
--
--   SamePair P Q          one modulus, one pair of degrees in x, the same coefficients; each pair within its bounds
--   largest-same          the largest number that passes is one, however far is looked, where none passes after
--   side-degree           the largest power that occurs is one, whichever bound is looked to
--   side-value            the coefficient of x^i has one value, whichever bound is counted to
--   same-degree_a ..       the law for each thing computed from a pair
use Prim.Native.Nat.{ℕ, zero, suc, ◌+◌, ◌*◌, ◌<◌, ◌≤◌}
use Rattle.std.proofs.Common.{arith, sym, ◌∙◌, eq-eqb}
use Rattle.std.proofs.Math.Decide.{dec_le}
use Rattle.std.specs.Prelude.{Bool, true, false, ◌&&◌, ◌≡◌, eqb, length}
use Rattle.std.proofs.Math.Bool.{cond, not}
use mathlib.Core.List.{List, [], ◌∷◌, ◌++◌}
use Rattle.std.proofs.Math.Path.{PathP, refl, ap, ap₂}
use Rattle.std.proofs.Math.Dec.{leb}
use Rattle.std.proofs.Math.ListN.{take}
use Rattle.ring.specs.Ring.{Ring}
use Rattle.residue.specs.Residue.{residues, res, val}
use Rattle.residue.specs.ResidueLaws.{res-zero}
use Rattle.sylvester.specs.Sylvester.{resultant}
use Rattle.polynomial.specs.Poly.{poly}
use Rattle.polynomial.specs.ValueLaws.{value_more}
use Rattle.euclid.specs.Row.{row_determinant}
use Rattle.scope.specs.Pair.{Pair, largest, occurs, degree_a, degree_b, bound, polynomial, determinant, coefficient}
use Rattle.scope.specs.Point.{tabulate, value_at, row_at, row_a, row_b, usable, kept, needed, room, usables, enough, smallest}
use Rattle.scope.specs.Number.{◌gives◌otherwise◌, among, point_number}
use Rattle.scope.specs.Search.{largest_most, largest_here, largest_is, none-some}
use Rattle.scope.specs.Degree.{Within}

pub record SamePair (P Q : Pair) : Type 0 where
  pub p : P.p ≡ Q.p
  pub m : P.m ≡ Q.m
  pub n : P.n ≡ Q.n
  pub A : (i j : ℕ) → P.A i j ≡ Q.A i j
  pub B : (i j : ℕ) → P.B i j ≡ Q.B i j
  pub left_within : Within P
  pub right_within : Within Q

pub largest-same : (d e : ℕ) (o : ℕ → Bool) → ((j : ℕ) → d < j → o j ≡ false) → ((j : ℕ) → e < j → o j ≡ false)
    → largest d o ≡ largest e o
largest-same d e o hd he =
    largest_is e o (largest d o) (elim (dec_le (largest d o) e) [ yes h ↦ h | no h ↦ clash (omega arith) ])
    (λ j _ l. above j l) (largest_here d o)
  where
    clash : e < largest d o → largest d o ≤ e
    clash l =
        let t : o (largest d o) ≡ true = largest_here d o (omega arith) in
        let f : o (largest d o) ≡ false = he (largest d o) l in
        let z : ◌≡◌ {A = ℕ} 0 1 = cc in
        omega arith

    above : (j : ℕ) → largest d o < j → o j ≡ false
    above j l = elim (dec_le j d) [ yes h ↦ largest_most d o j h l | no h ↦ hd j (omega arith) ]

-- one polynomial, within the bound d and within the bound e
module _ (d e : ℕ) (A B : ℕ → ℕ → ℕ) (same : (i j : ℕ) → A i j ≡ B i j) (hd : (i j : ℕ) → d < j → A i j ≡ 0) (he : (i j : ℕ) → e < j → B i j ≡ 0) where
  absent : (m j : ℕ) → ((i : ℕ) → A i j ≡ 0) → occurs m A j ≡ false
  unfolding occurs
  absent m j h = none-some (m + 1) (λ i. not (eqb (A i j) 0)) (λ i _. ap not (eq-eqb (A i j) 0 (h i)))

  pub side-degree : (m n : ℕ) → m ≡ n → largest d (occurs m A) ≡ largest e (occurs n B)
  side-degree m n q =
      largest-same d e (occurs m A) (λ j l. absent m j (λ i. hd i j l)) (λ j l. absent m j (λ i. same i j ∙ he i j l))
      ∙ (λ k. largest e (occurs (q k) (λ i j. same i j k)))

  zeroed : (p i j : ℕ) → A i j ≡ 0 → polynomial p A i j ≡ Ring.𝟘 (residues p)
  unfolding polynomial
  zeroed p i j h = ap (res p) h ∙ res-zero p

  pub side-value : (p q : ℕ) → p ≡ q → (i a : ℕ) → value_at p d A i a ≡ value_at q e B i a
  unfolding value_at
  side-value p q r i a =
      ap (val p)
      (sym (value_more (residues p) d (d + e) (polynomial p A i) (res p a) (λ j l. zeroed p i j (hd i j l)) (omega arith))
      ∙ value_more (residues p) e (d + e) (polynomial p A i) (res p a) (λ j l. zeroed p i j (same i j ∙ he i j l)) (omega arith))
      ∙ (λ k. value_at (r k) e (λ i j. same i j k) i a)

module _ (P Q : Pair) (s : SamePair P Q) where
  pub same-degree_a : degree_a P ≡ degree_a Q
  unfolding degree_a
  same-degree_a = side-degree P.e Q.e P.A Q.A s.A s.left_within.in_a s.right_within.in_a P.m Q.m s.m

  pub same-degree_b : degree_b P ≡ degree_b Q
  unfolding degree_b
  same-degree_b = side-degree P.f Q.f P.B Q.B s.B s.left_within.in_b s.right_within.in_b P.n Q.n s.n

  pub same-bound : bound P ≡ bound Q
  unfolding bound
  same-bound = λ k. s.n k * same-degree_a k + s.m k * same-degree_b k

  pub same-needed : needed P ≡ needed Q
  unfolding needed
  same-needed = ap (λ (d : ℕ). d + 1) same-bound

  pub same-room : room P ≡ room Q
  unfolding room
  same-room = ap (λ (d : ℕ). d + 1) same-bound

  pub same_value_a : (i a : ℕ) → value_at P.p P.e P.A i a ≡ value_at Q.p Q.e Q.A i a
  same_value_a = side-value P.e Q.e P.A Q.A s.A s.left_within.in_a s.right_within.in_a P.p Q.p s.p

  pub same_value_b : (i a : ℕ) → value_at P.p P.f P.B i a ≡ value_at Q.p Q.f Q.B i a
  same_value_b = side-value P.f Q.f P.B Q.B s.B s.left_within.in_b s.right_within.in_b P.p Q.p s.p

  pub same-row_a : (a : ℕ) → row_a P a ≡ row_a Q a
  unfolding row_a row_at
  same-row_a a = λ k. tabulate (suc (s.m k)) (λ i. same_value_a i a k)

  pub same-row_b : (a : ℕ) → row_b P a ≡ row_b Q a
  unfolding row_b row_at
  same-row_b a = λ k. tabulate (suc (s.n k)) (λ i. same_value_b i a k)

  pub same-usable : (a : ℕ) → usable P a ≡ usable Q a
  unfolding usable
  same-usable a = λ k. not (eqb (same_value_a (s.m k) a k) 0) && not (eqb (same_value_b (s.n k) a k) 0)

  pub same_kept : (a : ℕ) → kept P a ≡ kept Q a
  unfolding kept
  same_kept a = λ k. val (s.p k) (row_determinant (s.p k) (same-row_a a k) (same-row_b a k))

  pub same-usables : (k : ℕ) → usables P k ≡ usables Q k
  unfolding usables
  same-usables zero = refl
  same-usables (suc k) = ap₂ (λ (t : Bool) (before : List ℕ). cond t (before ++ k ∷ []) before) (same-usable k) (same-usables k)

  pub same-enough : enough P ≡ enough Q
  unfolding enough
  same-enough = λ k. leb (same-needed k) (length (same-usables (s.p k) k))

  pub same-smallest : smallest P ≡ smallest Q
  unfolding smallest
  same-smallest = λ k. take (same-needed k) (same-usables (s.p k) k)

  pub same-point_number : (points : List ℕ) (a : ℕ) → point_number P points a ≡ point_number Q points a
  unfolding point_number
  same-point_number points a =
      λ k. leb (s.p k) a gives 10 otherwise among a points gives 12 otherwise not (same-usable a k) gives 11 otherwise 0

  -- the two determinants lie over one modulus, given twice
  pub same-determinant : (k : ℕ) → PathP (λ i. Ring.C (residues (s.p i))) (determinant P k) (determinant Q k)
  unfolding determinant
  same-determinant k =
      λ i. resultant (poly (residues (s.p i))) (s.m i) (s.n i) (polynomial (s.p i) (λ l j. s.A l j i)) (polynomial (s.p i) (λ l j. s.B l j i)) k

  pub same-coefficient : (k : ℕ) → coefficient P k ≡ coefficient Q k
  unfolding coefficient
  same-coefficient k = λ i. val (s.p i) (same-determinant k i)

-- Why the formula of the monic remainder sequence is Sylvester's determinant.
--
--   formula_head          of the first row the formula sees only the degree
--   formula_two           the formula of two rows
--   formula_step          the formula from the one that begins a row later
--   determinant-monic     the divisor made monic
--   determinant-zero      a division with no remainder
--   determinant-next      a division with one
--   formula-last, formula_more   the formula of a sequence that ends after b, and of one that goes on
--   formula-right         the formula of every sequence
--   row_resultant-right    the row resultant is the determinant of Sylvester's matrix
use Prim.Native.Nat.{ℕ, zero, suc, ◌+◌, ◌*◌, ◌<◌, ◌≤◌}
use Rattle.std.proofs.Common.{arith, ◌∙◌}
use Rattle.std.specs.Prelude.{Bool, ◌≡◌, length}
use Rattle.std.proofs.Math.Bool.{true, false}
use mathlib.Core.List.{List, [], ◌∷◌, map}
use Rattle.std.proofs.Math.Path.{refl, sym, ap}
use Rattle.std.proofs.Math.ListN.{get_or}
use Rattle.std.proofs.Math.Dec.{ltb}
use Rattle.ring.specs.Ring.{pow, sign}
use Rattle.ring.specs.RingLaws.{one-⊗, ⊗-zero, ⊗_left_comm, sign-add}
use Rattle.residue.specs.Prime.{Prime}
use Rattle.residue.specs.Residue.{residues, res}
use Rattle.sylvester.specs.Sylvester.{resultant}
use Rattle.sylvester.specs.Laws.{resultant_ext, resultant_const-right, resultant_swap, resultant-scale-right}
use Rattle.sylvester.specs.Laws.{resultant-division, resultant-zero_left, resultant-monic_step}
use Rattle.euclid.specs.Row.{coef, declared, degree, lead, row_determinant}
use Rattle.euclid.specs.RowLaws.{Below, Ended, coef_out, trim-coef, declared-length, declared_least, ended-degree, ended-lead}
use Rattle.euclid.specs.Division.{remainder, quotient, IsDivision}
use Rattle.euclid.specs.DivisionLaws.{division-right}
use Rattle.euclid.specs.Sequence.{monic, following, sequence, turns, final, leads, by_last, formula, by_size, row_resultant}
use Rattle.euclid.specs.MonicLaws.{monic-declared, monic-coef, monic-lead, monic-ended, monic_divisor}
use Rattle.euclid.specs.FollowingLaws.{Neighbours, shorter_neighbours, longer_neighbours, next, following_induction}

module _ (p : ℕ) where
  open residues p use {C, ◌⊗◌, ⊗_assoc, ⊗-one}

  pub formula_head : (a a' b : List ℕ) (rs : List (List ℕ)) → degree a ≡ degree a' → formula p (a ∷ b ∷ rs) ≡ formula p (a' ∷ b ∷ rs)
  unfolding formula final leads
  formula_head a a' b rs e =
      ap (λ (n : ℕ).
      by_last p (final (degree b ∷ map degree rs))
      (sign (residues p) (turns (n ∷ degree b ∷ map degree rs)) ⊗ (pow (residues p) (res p (lead b)) n ⊗ leads p (b ∷ rs)))) e

  by_last-⊗ : (n : ℕ) (x y : C) → by_last p n (x ⊗ y) ≡ x ⊗ by_last p n y
  unfolding by_last
  by_last-⊗ zero x y = refl
  by_last-⊗ (suc n) x y = sym (⊗-zero (residues p) x)

  pub formula_step : (a b c : List ℕ) (rs : List (List ℕ))
      → formula p (a ∷ b ∷ c ∷ rs)
      ≡ pow (residues p) (res p (lead b)) (degree a) ⊗ (sign (residues p) (degree a * degree b) ⊗ formula p (b ∷ c ∷ rs))
  unfolding formula final leads turns
  formula_step a b c rs =
      ap (by_last p n)
      (ap (λ (z : C). z ⊗ (x ⊗ l)) (sign-add (residues p) (degree a * degree b) v)
      ∙ ⊗_left_comm (residues p) (s ⊗ sign (residues p) v) x l
      ∙ ap (λ (z : C). x ⊗ z) (⊗_assoc s (sign (residues p) v) l))
      ∙ by_last-⊗ n x (s ⊗ (sign (residues p) v ⊗ l))
      ∙ ap (λ (z : C). x ⊗ z) (by_last-⊗ n s (sign (residues p) v ⊗ l))
    where
      n : ℕ
      n = final (degree c ∷ map degree rs)

      v : ℕ
      v = turns (degree b ∷ degree c ∷ map degree rs)

      x : C
      x = pow (residues p) (res p (lead b)) (degree a)

      s : C
      s = sign (residues p) (degree a * degree b)

      l : C
      l = leads p (b ∷ c ∷ rs)

  pub formula_two : (a b : List ℕ) → formula p (a ∷ b ∷ []) ≡ by_last p (degree b) (pow (residues p) (res p (lead b)) (degree a))
  unfolding formula final leads turns sign
  formula_two a b =
      ap (by_last p (degree b)) (one-⊗ (residues p) _ ∙ ⊗-one (pow (residues p) (res p (lead b)) (degree a)))

module _ (p : ℕ) (two : 2 ≤ p) (prime : Prime p) where
  open residues p use {C, ◌⊗◌, 𝟘}

  -- One division: of a by d, which is b made monic, with the remainder t.
  module _ (a b : List ℕ) (n : Neighbours p a b) where
    abbrev d : List ℕ
    d = monic p b

    abbrev t : List ℕ
    t = next p a b

    abbrev r : List ℕ
    r = remainder p a d

    abbrev q : List ℕ
    q = quotient p a d

    -- lead(b)^m times
    scaled : C → C
    scaled x = pow (residues p) (res p (lead b)) (declared a) ⊗ x

    determinant-monic : row_determinant p a b ≡ scaled (row_determinant p a d)
    unfolding row_determinant scaled
    determinant-monic =
        resultant_ext (residues p) (declared a) (declared b) (coef p a) (coef p a) (coef p b) (λ j. res p (lead b) ⊗ coef p d j)
        (λ j _. refl) (λ j _. monic-coef p two prime b n.second_ended n.second_below j)
        ∙ resultant-scale-right (residues p) (declared a) (declared b) (res p (lead b)) (coef p a) (coef p d)
        ∙ ap (λ (k : ℕ). scaled (resultant (residues p) (declared a) k (coef p a) (coef p d))) (sym (monic-declared p b))

    division : IsDivision p a d q r
    division = division-right p a d two prime (monic_divisor p two prime b n.second_ended n.second_below)

    fits : length q + declared d ≤ suc (declared a)
    fits = omega (arith, division.quotient-length, declared-length a n.first_ended.0, monic-declared p b, n.order)

    high : (j : ℕ) → declared d < j → coef p d j ≡ 𝟘
    high j h = coef_out p d j (omega (arith, declared_least d))

    determinant-zero : t ≡ [] → 0 < declared b → row_determinant p a d ≡ 𝟘
    unfolding row_determinant
    determinant-zero e some =
        resultant-division (residues p) (declared a) (declared d) (length q) (coef p q) (coef p a) (coef p d) (coef p r) fits high (λ j _. division.equation j)
        ∙ resultant-zero_left (residues p) (declared a) (declared d) (coef p r) (coef p d) (omega (arith, monic-declared p b)) (λ j _. gone j)
      where
        gone : (j : ℕ) → coef p r j ≡ 𝟘
        gone j = sym (trim-coef p r j) ∙ ap (λ (l : List ℕ). coef p l j) e ∙ coef_out p [] j (omega arith)

    determinant-next : declared t < declared b → row_determinant p a d ≡ sign (residues p) (declared a * declared d) ⊗ row_determinant p d t
    unfolding row_determinant
    determinant-next less =
        resultant-monic_step (residues p) (declared a) (declared d) (declared t) (length q) (coef p q) (coef p a) (coef p d) (coef p r) fits
        (omega (arith, n.order)) (monic-lead p two prime b n.second_ended n.second_below) high small (λ j _. division.equation j)
        ∙ ap (λ (z : C). sign (residues p) (declared a * declared d) ⊗ z)
        (resultant_ext (residues p) (declared d) (declared t) (coef p d) (coef p d) (coef p r) (coef p t) (λ j _. refl) (λ j _. sym (trim-coef p r j)))
      where
        small : (j : ℕ) → declared t < j → coef p r j ≡ 𝟘
        small j h = sym (trim-coef p r j) ∙ coef_out p t j (omega (arith, declared_least t))

    formula-last : t ≡ [] → formula p (a ∷ b ∷ []) ≡ row_determinant p a b
    unfolding by_last row_determinant coef scaled
    formula-last e =
        formula_two p a b
        ∙ ap (λ (k : ℕ). by_last p k (pow (residues p) (res p (lead b)) (degree a))) (ended-degree b n.second_ended)
        ∙ ap (λ (k : ℕ). by_last p (declared b) (pow (residues p) (res p (lead b)) k)) (ended-degree a n.first_ended)
        ∙ by-degree (declared b) refl
      where
        by-degree : (k : ℕ) → declared b ≡ k → by_last p k (pow (residues p) (res p (lead b)) (declared a)) ≡ row_determinant p a b
        by-degree zero z =
            sym (ap (λ (k : ℕ). resultant (residues p) (declared a) k (coef p a) (coef p b)) z
            ∙ resultant_const-right (residues p) (declared a) (coef p a) (coef p b)
            ∙ ap (λ (x : ℕ). pow (residues p) (res p x) (declared a)) (ap (λ (j : ℕ). get_or b j 0) (sym z) ∙ sym (ended-lead b n.second_ended)))
        by-degree (suc k) z =
            sym (determinant-monic ∙ ap scaled (determinant-zero e (omega arith)) ∙ ⊗-zero (residues p) (pow (residues p) (res p (lead b)) (declared a)))

    formula_more : (rs : List (List ℕ)) → declared t < declared b → formula p (d ∷ t ∷ rs) ≡ row_determinant p d t
        → formula p (a ∷ b ∷ t ∷ rs) ≡ row_determinant p a b
    unfolding scaled
    formula_more rs less later =
        formula_step p a b t rs
        ∙ ap (λ (k : ℕ). pow (residues p) (res p (lead b)) k ⊗ (sign (residues p) (k * degree b) ⊗ formula p (b ∷ t ∷ rs))) (ended-degree a n.first_ended)
        ∙ ap (λ (k : ℕ). scaled (sign (residues p) (declared a * k) ⊗ formula p (b ∷ t ∷ rs))) same
        ∙ ap (λ (z : C). scaled (sign (residues p) (declared a * declared d) ⊗ z))
        (formula_head p b d t rs (same ∙ sym (ended-degree d (monic-ended p two prime b n.second_ended n.second_below))) ∙ later)
        ∙ sym (determinant-monic ∙ ap scaled (determinant-next less))
      where
        same : degree b ≡ declared d
        same = ended-degree b n.second_ended ∙ sym (monic-declared p b)

  pub formula-right : (k : ℕ) (a b : List ℕ) → Neighbours p a b → length b ≤ k → formula p (a ∷ following p k a b) ≡ row_determinant p a b
  formula-right =
      following_induction p two prime (λ a b rs. formula p (a ∷ rs) ≡ row_determinant p a b) formula-last
      (λ a b rs n _ less later. formula_more a b n rs less later)

  pub row_resultant-right : (a b : List ℕ) → Ended a → Below p a → Ended b → Below p b → row_resultant p a b ≡ row_determinant p a b
  unfolding row_resultant by_size sequence row_determinant
  row_resultant-right a b ea ba eb bb = by-size (ltb (degree a) (degree b)) refl
    where
      by-size : (t : Bool) → ltb (degree a) (degree b) ≡ t → by_size p t a b ≡ row_determinant p a b
      by-size true e =
          ap (λ (z : C). sign (residues p) (degree a * degree b) ⊗ z)
          (formula-right (length a) b a (shorter_neighbours p a b ea ba eb bb e) (omega arith))
          ∙ ap (λ (k : ℕ). sign (residues p) (k * degree b) ⊗ row_determinant p b a) (ended-degree a ea)
          ∙ ap (λ (k : ℕ). sign (residues p) (declared a * k) ⊗ row_determinant p b a) (ended-degree b eb)
          ∙ sym (resultant_swap (residues p) (declared a) (declared b) (coef p a) (coef p b))
      by-size false e = formula-right (length b) a b (longer_neighbours p a b ea ba eb bb e) (omega arith)

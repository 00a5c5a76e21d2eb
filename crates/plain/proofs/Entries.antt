-- The entries of Sylvester's matrix of two rows, and tables that hold them.
--
--   shifted-before, shifted_within, shifted_past   a row moved i places right: before place i, on the row, past its end
--   matrix_low, matrix_high    the first n rows of the matrix are a's, the others b's
--   made_cell                  the cells of a table that calls of a closure gave, six entries of each row
--   size_most                  the matrix has at most six rows
--   table-determinant          the determinant of the matrix that such a table holds
use Prim.Native.Nat.{ℕ, zero, suc, ◌+◌, ◌*◌, ◌-◌, ◌/◌, ◌%◌, ◌<◌, ◌≤◌}
use native.Mathlib.Nat.{zero-add}
use native.Mathlib.Omega.{arith}
use native.Mathlib.Decide.{ℕ_discrete}
use mathlib.Core.Path.{◌≡◌, sym, ap, ap₂, subst, ◌∙◌}
use mathlib.Core.List.{List}
use lib.ListN.{length, get_or, take}
use lib.Seq.{length-take-le}
use Rattle.std.specs.Array.{IsFromFnResult, IsFromFnResultFrom}
use Rattle.std.specs.Fn.{Called}
use denote.Param.Members.{Mut}
use Rattle.ring.specs.Ring.{Ring}
use Rattle.ring.specs.MatrixLaws.{stack_low, stack_high}
use Rattle.ring.specs.Det.{det}
use Rattle.ring.specs.DetLaws.{det_ext}
use Rattle.residue.specs.Residue.{residues, res, val}
use Rattle.residue.specs.ResidueLaws.{res-zero}
use Rattle.sylvester.specs.Sylvester.{top, moved, sylvester, resultant}
use Rattle.sylvester.specs.Shift.{top_at, top_out, moved_at, moved_out}
use Rattle.euclid.specs.Row.{coef, declared, row_determinant}
use Rattle.euclid.specs.RowLaws.{declared-length}
use Rattle.plain.specs.Expansion.{cell, part}
use Rattle.plain.specs.Rows.{shifted_row, row_matrix}
use Rattle.plain.proofs.Columns.{every, first_at}

module _ (p : ℕ) (a : List ℕ) (i k : ℕ) where
  pub shifted-before : k < i → res p 0 ≡ shifted_row p a i k
  unfolding shifted_row
  shifted-before h = res-zero p ∙ sym (moved_out (residues p) i (top (residues p) (declared a) (coef p a)) k h)

  -- from place i on
  shifted-from : i ≤ k → shifted_row p a i k ≡ top (residues p) (declared a) (coef p a) (k - i)
  unfolding shifted_row
  shifted-from h =
      let place : k ≡ i + (k - i) = omega arith in
      ap (λ (z : ℕ). moved (residues p) i (top (residues p) (declared a) (coef p a)) z) place
      ∙ moved_at (residues p) i (top (residues p) (declared a) (coef p a)) (k - i)

  pub shifted_within : 0 < length a → i ≤ k → k - i < length a → res p (get_or a (length a - 1 - (k - i)) 0) ≡ shifted_row p a i k
  unfolding coef
  shifted_within some from in_row =
      let place : length a - 1 - (k - i) ≡ declared a - (k - i) = omega (arith, declared-length a some) in
      ap (λ (z : ℕ). res p (get_or a z 0)) place
      ∙ sym (shifted-from from ∙ top_at (residues p) (declared a) (coef p a) (k - i) (omega (arith, declared-length a some)))

  pub shifted_past : 0 < length a → i ≤ k → length a ≤ k - i → res p 0 ≡ shifted_row p a i k
  shifted_past some from past =
      res-zero p
      ∙ sym (shifted-from from ∙ top_out (residues p) (declared a) (coef p a) (k - i) (omega (arith, declared-length a some)))

-- with n one less than b has entries
module _ (p : ℕ) (a b : List ℕ) (some : 0 < length b) (i k : ℕ) where
  pub matrix_low : i < length b - 1 → shifted_row p a i k ≡ row_matrix p a b i k
  unfolding shifted_row row_matrix sylvester
  matrix_low h =
      sym (ap (λ (r : ℕ → Ring.C (residues p)). r k)
      (stack_low (declared b) i (shifted_row p a) (shifted_row p b) (omega (arith, declared-length b some))))

  pub matrix_high : length b - 1 ≤ i → shifted_row p b (i - (length b - 1)) k ≡ row_matrix p a b i k
  unfolding shifted_row row_matrix sylvester
  matrix_high h =
      sym (ap (λ (z : ℕ). row_matrix p a b z k) place
      ∙ ap (λ (r : ℕ → Ring.C (residues p)). r k) (stack_high (declared b) (i - (length b - 1)) (shifted_row p a) (shifted_row p b)))
    where
      place : i ≡ declared b + (i - (length b - 1))
      place = omega (arith, declared-length b some)

-- what n calls from place s on gave, where each call gives what R says and leaves the closure as it was
module _ {F : Type 0} {g : Mut F (ℕ × Unit {0}) ℕ} {f : F} (R : ℕ → ℕ → Type 0) (gives : (s y : ℕ) (q : F) → Called g f (s, tt) y q → (q ≡ f) × R s y) (t : List ℕ) where
  given : (k s y : ℕ) → R s y → get_or t s 0 ≡ y → s ≡ k → R k (get_or t k 0)
  given k s y says here e = subst (λ (z : ℕ). R z (get_or t z 0)) e (subst (R s) (sym here) says)

  made : (s n : ℕ) → IsFromFnResultFrom g f t s n → (k : ℕ) → s ≤ k → k < s + n → R k (get_or t k 0)
  made s zero calls k from to = absurd (omega arith)
  made s (suc n) (q, y, here, called, calls) k from to =
      elim (ℕ_discrete s k) [
        | yes e ↦ given k s y (gives s y q called).1 (here.1 0) e
        | no ne ↦ made (s + 1) n (subst (λ (r : F). IsFromFnResultFrom g r t (s + 1) n) (gives s y q called).0 calls) k (omega arith) (omega arith)
      ]

pub made_cell : {F : Type 0} {g : Mut F (ℕ × Unit {0}) ℕ} {f : F} {t : List ℕ} (a b : List ℕ) → IsFromFnResult g f t 36
    → ((s y : ℕ) (q : F) → Called g f (s, tt) y q → (q ≡ f) × ((p : ℕ) → res p y ≡ row_matrix p a b (s / 6) (s % 6)))
    → (p i k : ℕ) → i < 6 → k < 6 → cell p t i k ≡ row_matrix p a b i k
unfolding cell
made_cell {t = t} a b h gives p i k li lk =
    made (λ (s y : ℕ). (p : ℕ) → res p y ≡ row_matrix p a b (s / 6) (s % 6)) gives t 0 36 h.each (i * 6 + k) (omega arith) (omega arith) p
    ∙ ap₂ (row_matrix p a b) row column
  where
    row : (i * 6 + k) / 6 ≡ i
    row = omega arith

    column : (i * 6 + k) % 6 ≡ k
    column = omega arith

-- with m and n one less than a and b have entries
pub size_most : (a b : List ℕ) → 0 < length a → 0 < length b → declared a + declared b ≤ 6 → length a - 1 + (length b - 1) ≤ 6
size_most a b some-a some-b most = omega (arith, declared-length a some-a, declared-length b some-b)

pub table-determinant : (p : ℕ) (a b t : List ℕ) {r : ℕ} → 0 < length a → 0 < length b → declared a + declared b ≤ 6
    → ((p i k : ℕ) → i < 6 → k < 6 → cell p t i k ≡ row_matrix p a b i k)
    → r ≡ val p (det (residues p) (length (take (length a - 1 + (length b - 1)) every)) (part (cell p t) 0 (take (length a - 1 + (length b - 1)) every)))
    → r ≡ val p (row_determinant p a b)
unfolding row_determinant resultant row_matrix part
table-determinant p a b t some-a some-b most h hr =
    hr
    ∙ ap (λ (n : ℕ). val p (det (residues p) n (part (cell p t) 0 cols))) size
    ∙ ap (val p) (det_ext (residues p) (declared a + declared b) (part (cell p t) 0 cols) (row_matrix p a b) at)
  where
    cols : List ℕ
    cols = take (length a - 1 + (length b - 1)) every

    sum : length a - 1 + (length b - 1) ≡ declared a + declared b
    sum = omega (arith, declared-length a some-a, declared-length b some-b)

    size : length cols ≡ declared a + declared b
    size = length-take-le (length a - 1 + (length b - 1)) every (omega (arith, sum)) ∙ sum

    at : (i k : ℕ) → i < declared a + declared b → k < declared a + declared b → part (cell p t) 0 cols i k ≡ row_matrix p a b i k
    at i k li lk =
        ap₂ (cell p t) (zero-add i) (first_at (length a - 1 + (length b - 1)) k (omega (arith, sum)) (omega (arith, sum)))
        ∙ h p i k (omega arith) (omega arith)

-- The sequence after one division, in the rows as the code has them: the divisor d made monic, and the work row cut to the
-- length of the next row.
--
--   goes_on             where the next row is not empty, the two go on with the sequence
--   rest-answer         the answer from that of the two
--   rest-steps          its steps are few
use Prim.Native.Nat.{ℕ, ◌+◌, ◌*◌, ◌-◌, ◌<◌, ◌≤◌}
use native.Mathlib.Omega.{arith}
use mathlib.Core.List.{List, ◌++◌}
use mathlib.Core.Logic.{◌≢◌}
use mathlib.Core.Path.{◌≡◌, refl, sym, subst₂}
use lib.ListN.{length, get_or, take}
use Rattle.ring.specs.Ring.{pow, sign}
use Rattle.residue.specs.Residue.{residues, res, val}
use Rattle.euclid.specs.Row.{trim, declared}
use Rattle.euclid.specs.Division.{remainder, quotient, count}
use Rattle.euclid.specs.Sequence.{monic, sequence}
use Rattle.euclid.specs.FollowingLaws.{Neighbours, next}
use Rattle.field.specs.declared.Modulus.{Modulus}
use Rattle.rows.specs.declared.Place.{Place}
use Rattle.rows.specs.Last.{swapped}
use Rattle.rows.proofs.Chain.{next-length, next-front, next_more}
use Rattle.rows.proofs.Turns.{Answer, answer_more, steps_most}

module _ (q : Modulus) (a b : List ℕ) (rows : Neighbours q.value a b) {d row : List ℕ} {k : ℕ} (monic-is : d ≡ monic q.value b)
    (row-is : row ≡ remainder q.value a (monic q.value b) ++ quotient q.value a (monic q.value b)) (cut : k ≡ length (trim (take (length b - 1) row))) (some : k ≢ 0) where
  abbrev p : ℕ
  p = q.value

  open residues p use {◌⊗◌}

  front : take k row ≡ next p a b
  front = next-front p a b rows row-is cut

  more : Neighbours p (monic p b) (next p a b) × (length (next p a b) < length b)
  more = next_more q a b rows (omega (arith, next-length p a b rows row-is cut))

  pub goes_on : Neighbours p d (take k row) × (length (take k row) < length b)
  goes_on =
      subst₂ (λ (e l : List ℕ). Neighbours p e l × (length l < length b)) (sym monic-is) (sym front) more

  pub rest-answer : {u w : List ℕ} (over : List ℕ) {v s x y : ℕ} {place after : Place} → Answer p (sequence p d (take k row)) u w x y place
      → v ≡ val p (pow (residues p) (res p (get_or b (length b - 1) 0)) (length a - 1) ⊗ (sign (residues p) ((length a - 1) * (length b - 1)) ⊗ res p x))
      → s ≡ count (length a) (declared b) → after ≡ swapped place → Answer p (sequence p a b) (w ++ over) u v (s + y) after
  rest-answer {u} {w} over {v} {s} {x} {y} {place} inner =
      answer_more p a b rows more.0 over
      (subst₂ (λ (e l : List ℕ). Answer p (sequence p e l) u w x y place) monic-is front inner)

  pub rest-steps : length a ≤ 17 → {u w : List ℕ} {s x y : ℕ} {place : Place} → Answer p (sequence p d (take k row)) u w x y place
      → s ≡ count (length a) (declared b) → s + y ≤ 256
  rest-steps most {u} {w} {s} {x} {y} {place} inner es =
      steps_most q a b rows most (rest-answer w inner refl es refl).steps

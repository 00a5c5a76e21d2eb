-- The row resultant, by which of the two rows is shorter.
--
--   RowAnswer p a b u w v s place    v, s and place answer the row resultant of a and b, where the work rows end as u and w
--   longer_answer         the answer where a is not shorter: that of the sequence of a and b
--   shorter_answer        the answer where a is shorter: that of the sequence of b and a, with the sign
use Prim.Native.Nat.{ℕ, ◌*◌, ◌-◌, ◌<◌, ◌≤◌}
use native.Mathlib.Omega.{arith}
use mathlib.Core.Bool.{Bool, true, false}
use mathlib.Core.List.{List}
use mathlib.Core.Path.{◌≡◌, sym, ap, ap₂, subst, ◌∙◌}
use borrow.Author.Tests.{lt-ltb, le-ltb}
use lib.Dec.{ltb}
use lib.ListN.{length}
use Rattle.ring.specs.Ring.{sign}
use Rattle.residue.specs.Residue.{residues, res, val}
use Rattle.residue.specs.ResidueLaws.{res-val}
use Rattle.euclid.specs.Row.{degree}
use Rattle.euclid.specs.RowLaws.{ended-degree}
use Rattle.euclid.specs.Sequence.{monic, sequence, by_size, row_resultant, steps_by_size, row_steps}
use Rattle.euclid.specs.FollowingLaws.{Neighbours, shorter_neighbours, longer_neighbours}
use Rattle.rows.specs.Given.{IsRow}
use Rattle.rows.specs.Which.{pick}
use Rattle.rows.specs.declared.Place.{Place}
use Rattle.rows.specs.Last.{last_row, row_sequence, swapped, Lies}
use Rattle.rows.proofs.Bounds.{declared-minus}
use Rattle.rows.proofs.Sides.{lies_swap}
use Rattle.rows.proofs.Turns.{Answer}
use Rattle.rows.proofs.Value.{val_is}

pub record RowAnswer (p : ℕ) (a b u w : List ℕ) (v s : ℕ) (place : Place) : Type 0 where
  pub value : v ≡ val p (row_resultant p a b)
  pub steps : s ≡ row_steps p a b
  pub lies : Lies (monic p (last_row (row_sequence p a b))) u w place

-- the same, by the outcome of the test
record BySize (p : ℕ) (t : Bool) (a b u w : List ℕ) (v s : ℕ) (place : Place) : Type 0 where
  value : v ≡ val p (by_size p t a b)
  steps : s ≡ steps_by_size p t a b
  lies : Lies (monic p (last_row (pick t (sequence p b a) (sequence p a b)))) u w place

module _ (p : ℕ) (a b : List ℕ) (ha : IsRow p a) (hb : IsRow p b) where
  open residues p use {◌⊗◌}

  degree_is : {r : List ℕ} → IsRow p r → degree r ≡ length r - 1
  degree_is {r} h = ended-degree r h.ended ∙ sym (declared-minus r)

  by_test : {t : Bool} {u w : List ℕ} {v s : ℕ} {place : Place} → ltb (degree a) (degree b) ≡ t → BySize p t a b u w v s place → RowAnswer p a b u w v s place
  unfolding row_resultant row_steps row_sequence
  by_test {t} {u} {w} {v} {s} {place} e h =
      let tested = subst (λ (t : Bool). BySize p t a b u w v s place) (sym e) h in
      record { value = tested.value; steps = tested.steps; lies = tested.lies }

  module _ (less : length a < length b) where
    shorter : ltb (degree a) (degree b) ≡ true
    shorter = lt-ltb (degree a) (degree b) (omega (arith, degree_is ha, degree_is hb, ha.ended.0, hb.ended.0))

    pub shorter_rows : Neighbours p b a
    shorter_rows = shorter_neighbours p a b ha.ended ha.below hb.ended hb.below shorter

    pub shorter_answer : {u w : List ℕ} {v x s : ℕ} {place after : Place} → Answer p (sequence p b a) w u x s place
        → v < p → res p v ≡ sign (residues p) ((length a - 1) * (length b - 1)) ⊗ res p x → after ≡ swapped place → RowAnswer p a b u w v s after
    unfolding by_size steps_by_size
    shorter_answer {u} {w} {v} {x} h below is after =
        by_test shorter (record { value = value; steps = h.steps; lies = lies_swap after h.lies })
      where
        value : v ≡ val p (by_size p true a b)
        value =
            val_is p below
            (is
            ∙ ap₂ ◌⊗◌ (ap₂ (λ (i j : ℕ). sign (residues p) (i * j)) (sym (degree_is ha)) (sym (degree_is hb))) (ap (res p) h.value ∙ res-val p _))

  module _ (most : length b ≤ length a) where
    longer : ltb (degree a) (degree b) ≡ false
    longer = le-ltb (degree a) (degree b) (omega (arith, degree_is ha, degree_is hb))

    pub longer_rows : Neighbours p a b
    longer_rows = longer_neighbours p a b ha.ended ha.below hb.ended hb.below longer

    pub longer_answer : {u w : List ℕ} {v s : ℕ} {place : Place} → Answer p (sequence p a b) u w v s place → RowAnswer p a b u w v s place
    unfolding by_size steps_by_size
    longer_answer h = by_test longer (record { value = h.value; steps = h.steps; lies = h.lies })

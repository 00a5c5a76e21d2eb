-- How the row calls come to their results: a refusal, or the work done.
--
--   row_refused, row_given, row_done    the row resultant: a refusal, what the work asks, the work done
--   plain_refused ..                    the plain determinant
--   division_refused ..                 division in the work row
--   row_laws                            all of these, for the calls
--   divisor_alone                       the divisor between a row and itself is as long as the row's true length
--   divisor_first, divisor_second       which row divides, from the true lengths of both
use Rattle.std.specs.Prelude.{ℕ, ◌+◌, ◌≤◌, ◌<◌, Bool, List, ◌++◌, ◌≡◌, refl, ◌≢◌, length}
use Rattle.std.proofs.Common.{arith, ◌∙◌, eq-eqb, ne_eqb}
use Rattle.std.proofs.Math.Path.{sym, ap}
use Rattle.std.specs.Borrow.{Bor}
use Rattle.residue.specs.Residue.{val}
use Rattle.euclid.specs.Row.{declared, row_determinant}
use Rattle.euclid.specs.Division.{remainder, quotient, count}
use Rattle.euclid.specs.Sequence.{row_resultant, row_steps}
use Rattle.euclid.proofs.SequenceLaws.{row_resultant-right}
use Rattle.euclid.specs.StepsLaws.{row_steps-bound}
use Rattle.scope.specs.Number.{row_number, plain_number, division_number}
use Rattle.scope.specs.Answers.{only_done, row_value, row_count, plain_value, divided_row, divided_count}
use Rattle.residue.specs.Prime.{Prime}
use Rattle.euclid.specs.RowLaws.{Below, Ended}
use Rattle.rows.specs.Given.{IsRow}
use Rattle.checks.specs.Outcome.{number_of_bounds}
use Rattle.checks.specs.Facts.{RowFacts, row-facts, plain-facts, DivisionFacts, division-facts}
use Rattle.euclid.specs.Row.{trim}
use Rattle.rows.specs.Which.{pick, first?, lower}
use Rattle.rows.specs.WhichLaws.{first?_yes, first?_no, lower_first, lower_second}
use Rattle.kernel.specs.Results.{RowResult, PlainResult, DivisionResult, DivisorResult}

pub done : (r x : ℕ) → r ≡ 0 → only_done r x ≡ x
unfolding only_done
done r x h = rw (eq-eqb r 0 h) refl

pub refused : (r x : ℕ) → r ≢ 0 → only_done r x ≡ 0
unfolding only_done
refused r x h = rw (ne_eqb r 0 h) refl

-- a number that is not 0 is the definition's, and so is that one not 0
not_done : (r s : ℕ) → r ≡ s → r ≢ 0 → s ≢ 0
not_done r s e h z = h (e ∙ z)

module _ (p : ℕ) (a b : List ℕ) where
  pub row_refused : (r : ℕ) → r ≡ row_number p a b → r ≢ 0 → RowResult p a b (record { number = r; value = 0; steps = 0 })
  unfolding row_value row_count
  row_refused r e h = record {
    number = e;
    value = sym (refused (row_number p a b) _ (not_done r _ e h));
    steps = sym (refused (row_number p a b) _ (not_done r _ e h));
    few = omega arith;
  }

  -- what the work asks, from a number that is 0
  pub row_given : (r : ℕ) → r ≡ row_number p a b → r ≡ 0 → (2 ≤ p) × (Prime p × (IsRow p a × IsRow p b))
  row_given r e z =
      let g : RowFacts p a b = row-facts p a b (sym e ∙ z) in (
        g.modulus.least,
        (
          g.modulus.prime,
          (record { ended = g.ended_a; below = g.below_a; short = g.length_a }, record { ended = g.ended_b; below = g.below_b; short = g.length_b }),
        ),
      )

  pub row_done : (r v k : ℕ) → r ≡ row_number p a b → r ≡ 0 → v ≡ val p (row_resultant p a b) → k ≡ row_steps p a b
      → RowResult p a b (record { number = 0; value = v; steps = k })
  unfolding row_value row_count
  row_done r v k er zr ev ek = record {
    number = sym z;
    value = ev ∙ ap (val p) (row_resultant-right p g.modulus.least g.modulus.prime a b g.ended_a g.below_a g.ended_b g.below_b) ∙ sym (done (row_number p a b) _ z);
    steps = ek ∙ sym (done (row_number p a b) _ z);
    few = omega (arith, ek, row_steps-bound p g.modulus.least g.modulus.prime a b g.ended_a g.below_a g.ended_b g.below_b);
  }
    where
      z : row_number p a b ≡ 0
      z = sym er ∙ zr

      g : RowFacts p a b
      g = row-facts p a b z

  pub plain_refused : (r : ℕ) → r ≡ plain_number p a b → r ≢ 0 → PlainResult p a b (record { number = r; value = 0 })
  unfolding plain_value
  plain_refused r e h = record { number = e; value = sym (refused (plain_number p a b) _ (not_done r _ e h)) }

  pub plain_given : (r : ℕ) → r ≡ plain_number p a b → r ≡ 0 → (2 ≤ p) × (((0 < length a) × (0 < length b)) × (declared a + declared b ≤ 6))
  plain_given r e z =
      let g = plain-facts p a b (sym e ∙ z) in (g.0.modulus.least, ((g.0.ended_a.0, g.0.ended_b.0), g.1))

  pub plain_done : (r v : ℕ) → r ≡ plain_number p a b → r ≡ 0 → v ≡ val p (row_determinant p a b) → PlainResult p a b (record { number = 0; value = v })
  unfolding plain_value
  plain_done r v e z ev = record { number = sym (sym e ∙ z); value = ev ∙ sym (done (plain_number p a b) _ (sym e ∙ z)) }

  -- here a is the work row at entry
  pub division_refused : (r : ℕ) (left : List ℕ) → r ≡ division_number p a b → r ≢ 0 → left ≡ a
      → DivisionResult p a b (record { number = r; count = 0 }) left
  unfolding divided_row divided_count
  division_refused r left e h l = record {
    number = e;
    count = sym (refused (division_number p a b) _ (not_done r _ e h));
    left = rw (ne_eqb (division_number p a b) 0 (not_done r _ e h)) l;
  }

  pub division_given : (r : ℕ) → r ≡ division_number p a b → r ≡ 0
      → Prime p × (Ended b × ((length a ≤ 17) × ((length b ≤ 17) × (Below p a × Below p b))))
  division_given r e z =
      let g : DivisionFacts p a b = division-facts p a b (sym e ∙ z) in
      (g.modulus.prime, (g.ended_b, (g.length_row, (g.length_b, (g.below_row, g.below_b)))))

  pub division_done : (r k : ℕ) (left : List ℕ) → r ≡ division_number p a b → r ≡ 0 → k ≡ count (length a) (declared b)
      → left ≡ remainder p a b ++ quotient p a b → DivisionResult p a b (record { number = 0; count = k }) left
  unfolding divided_row divided_count
  division_done r k left er zr ek l = record {
    number = sym z;
    count = ek ∙ sym (done (division_number p a b) _ z);
    left = rw (eq-eqb (division_number p a b) 0 z) l;
  }
    where
      z : division_number p a b ≡ 0
      z = sym er ∙ zr

pub ruleset row_laws = (row_refused, row_given, row_done, plain_refused, plain_given, plain_done, division_refused, division_given, division_done, number_of_bounds)

-- the divisor between a row and itself is as long as the row's true length
pub divisor_alone : (a x : Bor (List ℕ)) → DivisorResult a a x → length x.now ≡ length (trim a.now)
divisor_alone a x h = ap length (h.stretch ∙ lower_second a.now a.now (omega arith))

-- which row divides, from the true lengths of both
module _ (a b : List ℕ) (x y : ℕ) (hx : x ≡ length (trim a)) (hy : y ≡ length (trim b)) where
  pub divisor_first : x < y → (◌≡◌ {A = ℕ} 0 (pick (first? a b) 0 1)) × (x ≡ length (lower a b))
  divisor_first l =
      let t : length (trim a) < length (trim b) = omega (arith, hx, hy) in
      (ap (λ (z : Bool). pick z 0 1) (sym (first?_yes a b t)), hx ∙ ap length (sym (lower_first a b t)))

  pub divisor_second : y ≤ x → (◌≡◌ {A = ℕ} 1 (pick (first? a b) 0 1)) × (y ≡ length (lower a b))
  divisor_second l =
      let t : length (trim b) ≤ length (trim a) = omega (arith, hx, hy) in
      (ap (λ (z : Bool). pick z 0 1) (sym (first?_no a b t)), hy ∙ ap length (sym (lower_second a b t)))

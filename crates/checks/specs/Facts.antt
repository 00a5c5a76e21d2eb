-- What the number 0 of a call says of its input.
--
--   RowFacts, row-facts               the input of a row resultant
--   plain-facts                       the input of a plain determinant: the same, and m + n <= 6
--   DivisionFacts, division-facts     the input of a division
--   ShapeFacts, shape-facts           the input of an opening, the usable points aside
--   modulus-facts                     the modulus of any of them
--   long_false, unended_false         what a test of a row that fails says
use Rattle.std.specs.Prelude.{ℕ, ◌+◌, ◌≤◌, false, ◌||◌, List, [], ◌∷◌, ◌≡◌, refl, length}
use Rattle.std.proofs.Common.{arith, sym, ◌∙◌, ltb-false}
use Rattle.std.proofs.lemmas.Bool.{eqb-false}
use Rattle.residue.specs.Prime.{Modulus}
use Rattle.euclid.specs.Row.{declared}
use Rattle.euclid.specs.RowLaws.{Below, Ended}
use Rattle.scope.specs.Pair.{size}
use Rattle.scope.specs.Search.{or_false}
use Rattle.scope.specs.Number.{outside, composite, too_high, too_long, misfit, over, no_lead, unended, row_number, plain_number, division_number}
use Rattle.scope.specs.TestLaws.{gives-zero, then-zero, modulus_tests, too_high_false, misfit_false, over_false}
use Rattle.checks.specs.Refusal.{both_none}
use Rattle.checks.specs.Shape.{shape_number}
use Rattle.checks.specs.Parts.{modulus_number, lengths_number, entries_number, division_rows_number, tables_number, row_parts, division_parts, shape_parts}

pub record RowFacts (p : ℕ) (a b : List ℕ) : Type 0 where
  pub modulus : Modulus p
  pub length_a : length a ≤ 17
  pub length_b : length b ≤ 17
  pub below_a : Below p a
  pub below_b : Below p b
  pub ended_a : Ended a
  pub ended_b : Ended b

pub record DivisionFacts (p : ℕ) (row b : List ℕ) : Type 0 where
  pub modulus : Modulus p
  pub length_row : length row ≤ 17
  pub length_b : length b ≤ 17
  pub below_row : Below p row
  pub below_b : Below p b
  pub ended_b : Ended b

pub record ShapeFacts (p m e n f : ℕ) (s t : List ℕ) : Type 0 where
  pub modulus : Modulus p
  pub high_m : m ≤ 16
  pub high_e : e ≤ 16
  pub high_n : n ≤ 16
  pub high_f : f ≤ 16
  pub length_a : length s ≡ size m e
  pub length_b : length t ≡ size n f
  pub below_a : Below p s
  pub below_b : Below p t
  pub lead_a : no_lead m e s ≡ false
  pub lead_b : no_lead n f t ≡ false

pub long_false : (r : List ℕ) → too_long r ≡ false → length r ≤ 17
unfolding too_long
long_false r h = ltb-false 17 (length r) h

-- an empty row is unended too: past the end of a row stands 0
pub unended_false : (r : List ℕ) → unended r ≡ false → Ended r
unfolding unended declared
unended_false [] h = absurd (eqb-false 0 0 h refl)
unended_false (x ∷ r) h = (omega arith, eqb-false _ 0 h)

pub modulus-facts : (p : ℕ) → modulus_number p ≡ 0 → Modulus p
unfolding modulus_number
modulus-facts p h =
    let (range, rest) = (gives-zero (outside p) 2 _ (omega arith)).0 h in
    (modulus_tests p).0 (range, ((gives-zero (composite p) 3 0 (omega arith)).0 rest).0)

pub row-facts : (p : ℕ) (a b : List ℕ) → row_number p a b ≡ 0 → RowFacts p a b
unfolding lengths_number entries_number
row-facts p a b h =
    let (modulus, rest) = (then-zero (modulus_number p) _).0 (sym (row_parts p a b) ∙ h) in
    let (lengths, entries) = (then-zero (lengths_number a b) _).0 rest in
    let (longA, longB, _) = both_none (too_long a) (too_long b) 4 _ (omega arith) lengths in
    let (overA, overB, ends) = both_none (over p a) (over p b) 6 _ (omega arith) entries in
    let (endA, endB, _) = both_none (unended a) (unended b) 7 _ (omega arith) ends in
    let prime = modulus-facts p modulus in
    record {
      modulus = prime;
      length_a = long_false a longA;
      length_b = long_false b longB;
      below_a = (over_false p a (omega arith)).0 overA;
      below_b = (over_false p b (omega arith)).0 overB;
      ended_a = unended_false a endA;
      ended_b = unended_false b endB;
    }

pub plain-facts : (p : ℕ) (a b : List ℕ) → plain_number p a b ≡ 0 → RowFacts p a b × (declared a + declared b ≤ 6)
unfolding plain_number
plain-facts p a b h =
    let (row, rest) = (then-zero (row_number p a b) _).0 h in
    let (small, _) = (gives-zero _ 17 _ (omega arith)).0 rest in
    (row-facts p a b row, ltb-false 6 (declared a + declared b) small)

pub division-facts : (p : ℕ) (row b : List ℕ) → division_number p row b ≡ 0 → DivisionFacts p row b
unfolding division_rows_number
division-facts p row b h =
    let (modulus, rest) = (then-zero (modulus_number p) _).0 (sym (division_parts p row b) ∙ h) in
    let (longRow, longB, entries) = both_none (too_long row) (too_long b) 4 _ (omega arith) rest in
    let (overRow, overB, ends) = both_none (over p row) (over p b) 6 _ (omega arith) entries in
    let (endB, _) = (gives-zero (unended b) 15 _ (omega arith)).0 ends in
    let prime = modulus-facts p modulus in
    record {
      modulus = prime;
      length_row = long_false row longRow;
      length_b = long_false b longB;
      below_row = (over_false p row (omega arith)).0 overRow;
      below_b = (over_false p b (omega arith)).0 overB;
      ended_b = unended_false b endB;
    }

pub shape-facts : (p m e n f : ℕ) (s t : List ℕ) → shape_number p m e n f s t ≡ 0 → ShapeFacts p m e n f s t
unfolding tables_number
shape-facts p m e n f s t h =
    let (modulus, rest) = (then-zero (modulus_number p) _).0 (sym (shape_parts p m e n f s t) ∙ h) in
    let (high, high_f, sizes) = both_none (too_high m || too_high e || too_high n) (too_high f) 4 _ (omega arith) rest in
    let (highs, high_n) = or_false (too_high m || too_high e) (too_high n) high in
    let (high_m, high_e) = or_false (too_high m) (too_high e) highs in
    let (misfitA, misfitB, entries) = both_none (misfit m e s) (misfit n f t) 5 _ (omega arith) sizes in
    let (overA, overB, leads) = both_none (over p s) (over p t) 6 _ (omega arith) entries in
    let (lead_a, lead_b, _) = both_none (no_lead m e s) (no_lead n f t) 7 _ (omega arith) leads in
    let prime = modulus-facts p modulus in
    record {
      modulus = prime;
      high_m = (too_high_false m).0 high_m;
      high_e = (too_high_false e).0 high_e;
      high_n = (too_high_false n).0 high_n;
      high_f = (too_high_false f).0 high_f;
      length_a = (misfit_false m e s).0 misfitA;
      length_b = (misfit_false n f t).0 misfitB;
      below_a = (over_false p s (omega arith)).0 overA;
      below_b = (over_false p t (omega arith)).0 overB;
      lead_a = lead_a;
      lead_b = lead_b;
    }

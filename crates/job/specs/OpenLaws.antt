-- What an accepted opening says, and what the job that it gives holds.
--
--   Accepted p m e n f s t   the facts that an opening with the number 0 says
--   accepted, accepting      from the number to the facts, and back
--   spread-length ..         a table laid out 17 places to a power of x: its length, entries, bound and leading row
--   spread-term              so laid out it keeps every coefficient
--   get_or-zeros               the entries of a list of zeros
--   pair_within              a job's pair is within its bounds
--   opened-same              the job's pair and the tables' pair have all in common
--   opened_standing          the job has what a sound record has
--   tables-same              tables with the same coefficients give pairs with all in common
use Rattle.std.specs.Prelude.{ℕ, zero, suc, ◌+◌, ◌*◌, ◌/◌, ◌%◌, ◌≤◌, ◌<◌, true, false, not, ◌||◌, List, ◌≡◌, refl, length, get_or, replicate}
use native.Mathlib.Omega.{arith}
use Rattle.std.proofs.Math.Decide.{dec_le}
use Rattle.std.proofs.Math.Path.{sym, ap₂}
use Rattle.std.proofs.Common.{ap, ◌∙◌}
use Rattle.std.proofs.lemmas.List.{length-replicate}
use Rattle.std.proofs.Math.ListN.{get_or-eq_default}
use Rattle.std.proofs.lemmas.Bool.{not-false}
use Rattle.residue.specs.Prime.{Modulus}
use Rattle.scope.specs.Pair.{place, size, term, tables}
use Rattle.scope.specs.Point.{enough}
use Rattle.scope.specs.Number.{outside, composite, too_high, misfit, over, no_lead, scarce, open_number}
use Rattle.scope.specs.Search.{or_false}
use Rattle.scope.specs.Degree.{Within, tables_within, tabulate-length, tabulate-get_or}
use Rattle.job.specs.declared.Job.{Job}
use Rattle.job.specs.Job.{pair_of, spread, opened}
use Rattle.job.specs.Standing.{Standing}
use Rattle.job.specs.SamePair.{SamePair, same-degree_a, same-degree_b, same-enough}
use Rattle.scope.specs.TestLaws.{gives-zero, both_false, modulus_tests, too_high_false, misfit_false, over_false}
use Rattle.scope.specs.TableLaws.{term_inside, term_high, term-below, term_out, no_lead-same}

pub record Accepted (p m e n f : ℕ) (s t : List ℕ) : Type 0 where
  pub modulus : Modulus p
  pub low_m : m ≤ 16
  pub low_e : e ≤ 16
  pub low_n : n ≤ 16
  pub low_f : f ≤ 16
  pub length_s : length s ≡ size m e
  pub length_t : length t ≡ size n f
  pub below_s : (k : ℕ) → get_or s k 0 < p
  pub below_t : (k : ℕ) → get_or t k 0 < p
  pub lead_s : no_lead m e s ≡ false
  pub lead_t : no_lead n f t ≡ false
  pub plenty : enough (tables p m e n f s t) ≡ true

pub accepted : (p m e n f : ℕ) (s t : List ℕ) → open_number p m e n f s t ≡ 0 → Accepted p m e n f s t
unfolding open_number scarce
accepted p m e n f s t h =
    let (two, r) = (gives-zero (outside p) 2 _ (omega arith)).0 h in
    let (three, r3) = (gives-zero (composite p) 3 _ (omega arith)).0 r in
    let (four, r4) = (gives-zero (too_high m || too_high e || too_high n || too_high f) 4 _ (omega arith)).0 r3 in
    let (five, r5) = (gives-zero (misfit m e s || misfit n f t) 5 _ (omega arith)).0 r4 in
    let (six, r6) = (gives-zero (over p s || over p t) 6 _ (omega arith)).0 r5 in
    let (seven, r7) = (gives-zero (no_lead m e s || no_lead n f t) 7 _ (omega arith)).0 r6 in
    let (eight, r8) = (gives-zero (not (enough (tables p m e n f s t))) 8 0 (omega arith)).0 r7 in
    let (men, hf) = or_false (too_high m || too_high e || too_high n) (too_high f) four in
    let (me, hn) = or_false (too_high m || too_high e) (too_high n) men in
    let (hm, he) = or_false (too_high m) (too_high e) me in
    let (ls, lt) = or_false (misfit m e s) (misfit n f t) five in
    let (os, ot) = or_false (over p s) (over p t) six in
    let (ns, nt) = or_false (no_lead m e s) (no_lead n f t) seven in
    let modulus : Modulus p = (modulus_tests p).0 (two, three) in
    let pos : 0 < p = omega (arith, modulus.least) in
    record {
      modulus = modulus;
      low_m = (too_high_false m).0 hm;
      low_e = (too_high_false e).0 he;
      low_n = (too_high_false n).0 hn;
      low_f = (too_high_false f).0 hf;
      length_s = (misfit_false m e s).0 ls;
      length_t = (misfit_false n f t).0 lt;
      below_s = (over_false p s pos).0 os;
      below_t = (over_false p t pos).0 ot;
      lead_s = ns;
      lead_t = nt;
      plenty = not-false (enough (tables p m e n f s t)) eight;
    }

pub accepting : (p m e n f : ℕ) (s t : List ℕ) → Accepted p m e n f s t → open_number p m e n f s t ≡ 0
unfolding open_number scarce
accepting p m e n f s t a =
    let (two, three) = (modulus_tests p).1 a.modulus in
    let pos : 0 < p = omega (arith, a.modulus.least) in
    let eight = (gives-zero (not (enough (tables p m e n f s t))) 8 0 (omega arith)).1 (ap not a.plenty, refl) in
    let seven = (gives-zero (no_lead m e s || no_lead n f t) 7 _ (omega arith)).1 (both_false (no_lead m e s) (no_lead n f t) a.lead_s a.lead_t, eight) in
    let six = (gives-zero (over p s || over p t) 6 _ (omega arith)).1 (both_false (over p s) (over p t) ((over_false p s pos).1 a.below_s) ((over_false p t pos).1 a.below_t), seven) in
    let five = (gives-zero (misfit m e s || misfit n f t) 5 _ (omega arith)).1 (both_false (misfit m e s) (misfit n f t) ((misfit_false m e s).1 a.length_s) ((misfit_false n f t).1 a.length_t), six) in
    let me = both_false (too_high m) (too_high e) ((too_high_false m).1 a.low_m) ((too_high_false e).1 a.low_e) in
    let men = both_false (too_high m || too_high e) (too_high n) me ((too_high_false n).1 a.low_n) in
    let menf = both_false (too_high m || too_high e || too_high n) (too_high f) men ((too_high_false f).1 a.low_f) in
    let four = (gives-zero (too_high m || too_high e || too_high n || too_high f) 4 _ (omega arith)).1 (menf, five) in
    (gives-zero (outside p) 2 _ (omega arith)).1 (two, (gives-zero (composite p) 3 _ (omega arith)).1 (three, four))

pub spread-length : (e : ℕ) (s : List ℕ) → length (spread e s) ≡ 289
unfolding spread
spread-length e s = tabulate-length 289 (λ k. term e s (k / 17) (k % 17))

-- a table laid out 17 places to a power of x
module _ (m e : ℕ) (s : List ℕ) (low_m : m ≤ 16) (low_e : e ≤ 16) (len : length s ≡ size m e) where
  pub spread-get_or : (k : ℕ) → get_or (spread e s) k 0 ≡ term e s (k / 17) (k % 17)
  unfolding spread
  spread-get_or k =
      elim (dec_le 289 k) [
        | yes l ↦ get_or-eq_default (spread e s) 0 (omega (arith, spread-length e s)) ∙ sym (term_out e s (k / 17) (k % 17) m len (omega arith))
        | no l ↦ tabulate-get_or 289 (λ k. term e s (k / 17) (k % 17)) k (omega arith)
      ]

  pub spread-term : (i j : ℕ) → term 16 (spread e s) i j ≡ term e s i j
  unfolding place
  spread-term i j =
      elim (dec_le j 16) [
        | yes l ↦ term_inside 16 (spread e s) i j l ∙ spread-get_or (i * 17 + j) ∙ ap₂ (term e s) (row l) (column l)
        | no l ↦ term_high 16 (spread e s) i j (omega arith) ∙ sym (term_high e s i j (omega arith))
      ]
    where
      row : j ≤ 16 → (i * 17 + j) / 17 ≡ i
      row l = omega arith

      column : j ≤ 16 → (i * 17 + j) % 17 ≡ j
      column l = omega arith

  pub spread-below : (p : ℕ) → 0 < p → ((k : ℕ) → get_or s k 0 < p) → (k : ℕ) → get_or (spread e s) k 0 < p
  spread-below p pos h k = rw (spread-get_or k) (term-below e s (k / 17) (k % 17) p pos h)

  pub spread-outside : (k : ℕ) → (m + 1) * 17 ≤ k → get_or (spread e s) k 0 ≡ 0
  spread-outside k h = spread-get_or k ∙ term_out e s (k / 17) (k % 17) m len (omega arith)

  pub spread-lead : no_lead m e s ≡ false → no_lead m 16 (spread e s) ≡ false
  spread-lead = no_lead-same m e 16 s (spread e s) (λ j. sym (spread-term m j))

pub get_or-zeros : (n i : ℕ) → ◌≡◌ {A = ℕ} (get_or (replicate n 0) i 0) 0
get_or-zeros zero i = refl
get_or-zeros (suc n) zero = refl
get_or-zeros (suc n) (suc i) = get_or-zeros n i

pub pair_within : (j : Job) → Within (pair_of j)
unfolding pair_of tables
pair_within j = tables_within j.p j.m 16 j.n 16 j.a j.b

pub opened-same : (p m e n f : ℕ) (s t : List ℕ) → open_number p m e n f s t ≡ 0
    → SamePair (pair_of (opened p m e n f s t)) (tables p m e n f s t)
unfolding pair_of opened tables
opened-same p m e n f s t h =
    let facts : Accepted p m e n f s t = accepted p m e n f s t h in
    record {
      p = refl;
      m = refl;
      n = refl;
      A = spread-term m e s facts.low_m facts.low_e facts.length_s;
      B = spread-term n f t facts.low_n facts.low_f facts.length_t;
      left_within = pair_within (opened p m e n f s t);
      right_within = tables_within p m e n f s t;
    }

pub opened_standing : (p m e n f : ℕ) (s t : List ℕ) → open_number p m e n f s t ≡ 0 → Standing (opened p m e n f s t)
unfolding opened
opened_standing p m e n f s t h =
    let a : Accepted p m e n f s t = accepted p m e n f s t h in
    let pos : 0 < p = omega (arith, a.modulus.least) in
    let same : SamePair (pair_of (opened p m e n f s t)) (tables p m e n f s t) = opened-same p m e n f s t h in
    record {
      length_of_a = spread-length e s;
      length_of_b = spread-length f t;
      length_points = length-replicate {A = ℕ} 513 0;
      length_values = length-replicate {A = ℕ} 513 0;
      modulus = a.modulus;
      low_m = a.low_m;
      low_n = a.low_n;
      below_of_a = spread-below m e s a.low_m a.low_e a.length_s p pos a.below_s;
      below_of_b = spread-below n f t a.low_n a.low_f a.length_t p pos a.below_t;
      outside_a = spread-outside m e s a.low_m a.low_e a.length_s;
      outside_b = spread-outside n f t a.low_n a.low_f a.length_t;
      lead_of_a = spread-lead m e s a.low_m a.low_e a.length_s a.lead_s;
      lead_of_b = spread-lead n f t a.low_n a.low_f a.length_t a.lead_t;
      real_a = sym (same-degree_a _ _ same);
      real_b = sym (same-degree_b _ _ same);
      plenty = same-enough _ _ same ∙ a.plenty;
      few = omega arith;
      point-below = λ i l. absurd (omega arith);
      point-usable = λ i l. absurd (omega arith);
      point_apart = λ i k _ l. absurd (omega arith);
      value-kept = λ i l. absurd (omega arith);
      point-rest = λ i _. get_or-zeros 513 i;
      value-rest = λ i _. get_or-zeros 513 i;
    }

-- tables with the same coefficients, whatever degrees in y they declare
pub tables-same : (p m n e e' f f' : ℕ) (s s' t t' : List ℕ)
    → ((i j : ℕ) → term e s i j ≡ term e' s' i j) → ((i j : ℕ) → term f t i j ≡ term f' t' i j)
    → SamePair (tables p m e n f s t) (tables p m e' n f' s' t')
unfolding tables
tables-same p m n e e' f f' s s' t t' hs ht = record {
  p = refl;
  m = refl;
  n = refl;
  A = hs;
  B = ht;
  left_within = tables_within p m e n f s t;
  right_within = tables_within p m e' n f' s' t';
}

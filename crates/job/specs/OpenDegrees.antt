-- The job does not know the declared degrees in y: two openings that differ only in those, and in the tables that go with
-- them, are answered alike.
--
--   SameTable m e e' s s'     s is a table of degrees m and e, and s' of m and e' (in y 16 at most), with the same
--                             coefficients
--   strict_degrees            the strict opening: one number and one job, accepted or refused
--   open_degrees              the public opening: the same
use Rattle.std.specs.Prelude.{ℕ, ◌+◌, ◌/◌, ◌%◌, ◌≤◌, ◌<◌, Bool, true, false, ◌||◌, List, ◌≡◌, refl, leb, ltb, eqb, length, get_or}
use Rattle.std.proofs.Common.{div-add-mod', mod-lt, arith, sym, ap, ◌∙◌}
use Rattle.std.proofs.Math.Bool.{cond, not}
use Rattle.std.proofs.Math.ListN.{replicate}
use borrow.Author.Tests.{ltb-false}
use Rattle.residue.specs.Prime.{limit}
use Rattle.scope.specs.Pair.{place, size, term, tables}
use Rattle.scope.specs.Point.{tabulate}
use Rattle.scope.specs.Number.{◌gives◌otherwise◌, outside, composite, too_high, misfit, over, no_lead, scarce, open_number}
use Rattle.scope.specs.Search.{or_false}
use Rattle.scope.specs.TestLaws.{too_high_false, misfit_false, over_false}
use Rattle.scope.specs.TableLaws.{term_inside, term-below, no_lead-same}
use Rattle.job.specs.Job.{spread, opened, blank}
use Rattle.job.specs.Public.{strict_number, strict_job, open_answer, open_job}
use Rattle.job.specs.OpenLaws.{tables-same}
use Rattle.job.specs.SamePair.{SamePair, same-degree_a, same-degree_b, same-enough}

pub record SameTable (m e e' : ℕ) (s s' : List ℕ) : Type 0 where
  pub low : e ≤ 16
  pub low' : e' ≤ 16
  pub fits : length s ≡ size m e
  pub fits' : length s' ≡ size m e'
  pub same : (i j : ℕ) → term e s i j ≡ term e' s' i j

-- an entry is the coefficient of its place
entry-term : (e : ℕ) (t : List ℕ) (k : ℕ) → get_or t k 0 ≡ term e t (k / (e + 1)) (k % (e + 1))
unfolding place
entry-term e t k =
    ap (λ (at : ℕ). get_or t at 0) (sym (div-add-mod' k (e + 1)))
    ∙ sym (term_inside e t (k / (e + 1)) (k % (e + 1)) (omega (arith, mod-lt k {m = e + 1} (omega arith))))

over-same : (p e e' : ℕ) (s s' : List ℕ) → 0 < p → ((i j : ℕ) → term e s i j ≡ term e' s' i j) → over p s ≡ false → over p s' ≡ false
over-same p e e' s s' pos same h =
    (over_false p s' pos).1
    (λ k. rw (entry-term e' s' k, ← same (k / (e' + 1)) (k % (e' + 1))) (term-below e s (k / (e' + 1)) (k % (e' + 1)) p pos ((over_false p s pos).0 h)))

-- two tests that fail together
alike : (a b : Bool) → (a ≡ false → b ≡ false) → (b ≡ false → a ≡ false) → a ≡ b
alike true true f g = refl
alike true false f g = g refl
alike false b f g = sym (f refl)

-- what is judged after a test, where it matters only if the test fails
later : (a : Bool) (r x y : ℕ) → (a ≡ false → x ≡ y) → (a gives r otherwise x) ≡ (a gives r otherwise y)
unfolding ◌gives◌otherwise◌
later true r x y h = refl
later false r x y h = h refl

-- the tests of one table
module _ (m e e' : ℕ) (s s' : List ℕ) (h : SameTable m e e' s s') where
  same_high : too_high e ≡ too_high e'
  same_high = (too_high_false e).1 h.low ∙ sym ((too_high_false e').1 h.low')

  same-misfit : misfit m e s ≡ misfit m e' s'
  same-misfit = (misfit_false m e s).1 h.fits ∙ sym ((misfit_false m e' s').1 h.fits')

  same_over : (p : ℕ) → 0 < p → over p s ≡ over p s'
  same_over p pos = alike (over p s) (over p s') (over-same p e e' s s' pos h.same) (over-same p e' e s' s pos (λ i j. sym (h.same i j)))

  same-no_lead : no_lead m e s ≡ no_lead m e' s'
  same-no_lead = alike (no_lead m e s) (no_lead m e' s') (no_lead-same m e e' s s' (h.same m)) (no_lead-same m e' e s' s (λ j. sym (h.same m j)))

module _ (p m n e e' f f' : ℕ) (s s' t t' : List ℕ) (hs : SameTable m e e' s s') (ht : SameTable n f f' t t') where
  pair : SamePair (tables p m e n f s t) (tables p m e' n f' s' t')
  pair = tables-same p m n e e' f f' s s' t t' hs.same ht.same

  same-opened : opened p m e n f s t ≡ opened p m e' n f' s' t'
  unfolding opened spread
  same-opened =
      λ i. record {
        p = p;
        m = m;
        n = n;
        da = same-degree_a _ _ pair i;
        db = same-degree_b _ _ pair i;
        count = 0;
        a = tabulate 289 (λ k. hs.same (k / 17) (k % 17) i);
        b = tabulate 289 (λ k. ht.same (k / 17) (k % 17) i);
        points = replicate 513 0;
        values = replicate 513 0;
      }

  -- the tables are looked at only where p is in range
  same_number : open_number p m e n f s t ≡ open_number p m e' n f' s' t'
  unfolding open_number scarce outside
  same_number =
      later (outside p) 2 _ _ λ fine.
      let pos : 0 < p = omega (arith, ltb-false p 2 (or_false (ltb p 2) (leb limit p) fine).0) in
      λ i.
      composite p gives 3 otherwise
      (too_high m || same_high m e e' s s' hs i || too_high n || same_high n f f' t t' ht i) gives 4 otherwise
      (same-misfit m e e' s s' hs i || same-misfit n f f' t t' ht i) gives 5 otherwise
      (same_over m e e' s s' hs p pos i || same_over n f f' t t' ht p pos i) gives 6 otherwise
      (same-no_lead m e e' s s' hs i || same-no_lead n f f' t t' ht i) gives 7 otherwise
      not (same-enough _ _ pair i) gives 8 otherwise 0

  pub strict_degrees : (strict_number p m e n f s t ≡ strict_number p m e' n f' s' t') × (strict_job p m e n f s t ≡ strict_job p m e' n f' s' t')
  unfolding strict_number strict_job
  strict_degrees = (same_number, λ i. cond (eqb (same_number i) 0) (same-opened i) blank)

  pub open_degrees : (open_answer p m e n f s t ≡ open_answer p m e' n f' s' t') × (open_job p m e n f s t ≡ open_job p m e' n f' s' t')
  unfolding open_answer open_job
  open_degrees = strict_degrees
